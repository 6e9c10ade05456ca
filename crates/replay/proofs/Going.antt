-- Records played one by one: the text of the lines done is the buffer's front, and what is left to do is a trace of what is left.
-- Assumes nothing.
use Prim.Native.Nat.{ℕ, suc, ◌+◌, ◌*◌, ◌≤◌, ◌<◌}
use native.Mathlib.Numerals.{add-one}
use native.Mathlib.Omega.{arith}
use mathlib.Core.Bool.{true, true≢false}
use mathlib.Core.List.{List, [], ◌∷◌, ◌++◌, append_assoc, append-nil}
use mathlib.Core.Path.{◌≡◌, refl, sym, ap, ◌∙◌}
use borrow.Author.Tests.{le-leb}
use lib.Dec.{eqb, leb}
use lib.ListN.{length, get_or, take, drop, drop_of_length-le, length-append, take-append-drop}
use lib.Seq.{drop-drop, drop-cons, take_at, drop_at, length-take-le}
use Rattle.bits.specs.Buffers.{written, over}
use Rattle.rules.specs.Refusals as refusal
use Rattle.rules.specs.Refusal.{number_of}
use Rattle.rules.specs.declared.refusal.Refusal.{Refusal}
use Rattle.rules.proofs.OneAnswer.{some-number}
use Rattle.card.specs.declared.Card.{Card}
use Rattle.text.specs.Lines.{Shown}
use Rattle.text.specs.Text.{line_text, lines_text, longest, put_refusal, line_put, buffer_with_line}
use Rattle.text.specs.declared.Record.{Record}
use Rattle.text.proofs.Laws.{text-short}
use Rattle.replay.specs.Replay.{Outcome, Traced, behind, replayed, replayed_memory, traced}

-- ---- a line put where there is room

module _ (buffer : List ℕ) (place : ℕ) (s : Shown) (room : place + longest ≤ length buffer) where
  fits : leb (place + length (line_text s)) (length buffer) ≡ true
  fits = le-leb (place + length (line_text s)) (length buffer) (omega (arith, text-short s))

  end : (line_put (length buffer) place s).end ≡ place + length (line_text s)
  unfolding line_put put_refusal
  end = rw fits

  put : buffer_with_line buffer place s ≡ written buffer place (line_text s)
  unfolding buffer_with_line put_refusal
  put = rw fits

  front : length (take place buffer ++ line_text s) ≡ place + length (line_text s)
  front =
      length-append (take place buffer) (line_text s)
      ∙ ap (λ (n : ℕ). n + length (line_text s)) (length-take-le place buffer (omega arith))

  put-front : take (line_put (length buffer) place s).end (buffer_with_line buffer place s) ≡ take place buffer ++ line_text s
  unfolding written
  put-front = rw (end, put) (take_at (take place buffer ++ line_text s) _ (place + length (line_text s)) front)

  put-rest : drop (line_put (length buffer) place s).end (buffer_with_line buffer place s) ≡ drop (place + length (line_text s)) buffer
  unfolding written
  put-rest = rw (end, put) (drop_at (take place buffer ++ line_text s) _ (place + length (line_text s)) front)

-- ---- lines, one more

text-append : (done : List Shown) (s : Shown) → lines_text (done ++ (s ∷ [])) ≡ lines_text done ++ line_text s
unfolding lines_text
text-append [] s = append-nil (line_text s)
text-append (d ∷ done) s =
    ap (λ (l : List ℕ). line_text d ++ l) (text-append done s)
    ∙ sym (append_assoc (line_text d) (lines_text done) (line_text s))

abbrev traced_to : Card → List ℕ → List Shown → Traced
traced_to c memory lines = record { card = c; memory = memory; lines = lines }

abbrev behind_all : List Shown → Traced → Traced
behind_all done t = traced_to t.card t.memory (done ++ t.lines)

-- ---- where it stands

pub record Going (c₀ : Card) (memory₀ : List ℕ) (rs : List Record) (buffer₀ : List ℕ) (c : Card) (memory buffer : List ℕ) (place k : ℕ) : Type 0 where
  pub lines : List Shown
  pub done : traced c₀ memory₀ rs ≡ behind_all lines (traced c memory (drop k rs))
  pub text : take place buffer ≡ lines_text lines
  pub rest : drop place buffer ≡ drop place buffer₀
  pub low : place ≤ longest * k

pub going-start : (c : Card) (memory : List ℕ) (rs : List Record) (buffer : List ℕ) → Going c memory rs buffer c memory buffer 0 0
unfolding lines_text
going-start c memory rs buffer = record { lines = []; done = refl; text = refl; rest = refl; low = omega arith }

module _ {c₀ : Card} {memory₀ : List ℕ} {rs : List Record} {buffer₀ : List ℕ} {c : Card} {memory buffer : List ℕ} {place k : ℕ}
    (g : Going c₀ memory₀ rs buffer₀ c memory buffer place k) where
  module _ (r : Record) (less : k < length rs) (this : get_or rs k r ≡ r) where
    abbrev now : Outcome
    now = replayed c memory r

    abbrev now_memory : List ℕ
    now_memory = replayed_memory c memory r

    abbrev after : Traced
    after = traced now.card now_memory (drop (k + 1) rs)

    left : drop k rs ≡ r ∷ drop (k + 1) rs
    left = rw add-one (drop-cons rs k r less ∙ ap (λ (x : Record). x ∷ drop (suc k) rs) this)

    step : traced c memory (drop k rs) ≡ behind now.line after
    unfolding traced
    step = ap (traced c memory) left

    next : place + longest ≤ length buffer
        → Going c₀ memory₀ rs buffer₀ now.card now_memory (buffer_with_line buffer place now.line) (line_put (length buffer) place now.line).end (k + 1)
    next room =
        let s = now.line in
        record {
          lines = g.lines ++ (s ∷ []);
          done =
              g.done ∙ ap (behind_all g.lines) step
              ∙ ap (traced_to after.card after.memory) (sym (append_assoc g.lines (s ∷ []) after.lines));
          text =
              put-front buffer place s room
              ∙ ap (λ (l : List ℕ). l ++ line_text s) g.text
              ∙ sym (text-append g.lines s);
          rest =
              put-rest buffer place s room
              ∙ sym (drop-drop (length (line_text s)) place buffer)
              ∙ ap (drop (length (line_text s))) g.rest
              ∙ drop-drop (length (line_text s)) place buffer₀
              ∙ ap (λ (n : ℕ). drop n buffer₀) (sym (end buffer place s room));
          low = rw (end buffer place s room) (omega (arith, text-short s, g.low));
        }

    -- one record played, and its line put
    pub going-next : (card' : Card) (line : Shown) (memory' buffer' : List ℕ) (end' : ℕ) → place + longest ≤ length buffer
        → card' ≡ now.card → line ≡ now.line → memory' ≡ now_memory → end' ≡ (line_put (length buffer) place line).end
        → buffer' ≡ buffer_with_line buffer place line
        → Going c₀ memory₀ rs buffer₀ card' memory' buffer' end' (k + 1)
    going-next card' line memory' buffer' end' room ec el em ep eb = rw (eb, ep, em, el, ec) (next room)

  -- at the end nothing is left
  module _ (all : k ≡ length rs) (inside : place ≤ length buffer) where
    pub going-done : traced c₀ memory₀ rs ≡ traced_to c memory g.lines
    unfolding traced
    going-done =
        let none : drop k rs ≡ [] = drop_of_length-le rs (omega arith) in
        g.done
        ∙ ap (λ (l : List Record). behind_all g.lines (traced c memory l)) none
        ∙ ap (traced_to c memory) (append-nil g.lines)

    pub going-written : place ≡ length (lines_text g.lines)
    going-written = sym (length-take-le place buffer inside) ∙ ap length g.text

    pub going-over : buffer ≡ over (lines_text g.lines) buffer₀
    going-over = rw (← going-written, ← g.text, ← g.rest) (sym (take-append-drop place buffer))

-- such a line is not refused
pub never-refused : (r : Refusal) (buffer : List ℕ) (place : ℕ) (s : Shown) → place + longest ≤ length buffer
    → number_of r ≡ (line_put (length buffer) place s).refusal → ⊥
unfolding line_put put_refusal
never-refused r buffer place s room refused =
    let none : number_of r ≡ refusal.none = refused ∙ rw (fits buffer place s room) in
    true≢false (sym (ap (λ n. eqb n 0) none) ∙ some-number r)
