-- How a damaged command ends: no bit was seen, or it is refused whole, or it is taken as it was built. And no call is refused.
-- Assumes nothing.
use Rattle.card.specs.Exchange.{exchanged}
use Prim.Native.Nat.{ℕ, suc, ◌+◌, ◌*◌, ◌/◌, ◌%◌, ◌≤◌}
use native.Mathlib.Omega.{arith}
use mathlib.Core.Path.{◌≡◌, refl, sym, ap, ◌∙◌}
use mathlib.Core.Bool.{Bool, true, false, cond}
use mathlib.Core.List.{List, [], ◌∷◌}
use borrow.Author.Tests.{eqb-true}
use lib.Dec.{eqb}
use lib.ListN.{length, take, length-take}
use lib.Seq.{take_all}
use Rattle.bits.specs.Bits.{stream}
use Rattle.bits.specs.Lines.{whole_words, bits_left}
use Rattle.link.specs.Damage.{Flips, Damage, unseen, cut, bits_flipped, flipped}
use Rattle.bits.proofs.Lines.{length-stream, length-words}
use Rattle.link.proofs.Laws.{length-flipped}
use Rattle.rules.specs.Rules.{message_words}
use Rattle.token.specs.Command.{command_first, command_second}
use Rattle.token.specs.declared.command.Command.{Command}
use Rattle.token.proofs.CommandTrip.{limits}
use Rattle.token.proofs.Good.{both}
use Rattle.token.specs.Response.{any_set}
use Rattle.judge.specs.Judge.{token_status, is_checked}
use Rattle.card.specs.Release.{noted}
use Rattle.card.specs.Run.{Run, select, release}
use Rattle.card.specs.declared.Card.{Card}
use Rattle.controller.specs.Builder.{payload, message}
use Rattle.card.specs.Whole.{after, listened, card_after_line, memory_after_line, heard}
use Rattle.delivery.specs.Play.{Crossed, crossed}
use Rattle.card.proofs.Holding.{Idle}
use Rattle.card.proofs.Closed.{judged_by, unheard, card_acted, memory_acted, card_ended, memory_ended, card-heard, memory-heard, refusals-heard, heard-idle}
use Rattle.card.proofs.Sound.{word-run}
use Rattle.delivery.proofs.Accept.{Whole, whole, Sendable, AsBuilt, built-flipped, built-cut}

-- ---- a line that a card heard

-- a card passes a command's token, by steps 1 to 3
abbrev pub Passes : Command → Card → Type 0
Passes t c = any_set (token_status c.size c.bases (command_first t) (command_second t)) ≡ false

-- the three ends: the card and memory before, the line that the card saw, the card and memory after
pub data Ended (t : Command) (rest : List ℕ) (c : Card) (memory : List ℕ) (line : List Bool) (c' : Card) (memory' : List ℕ) : Type 0 where
  ignored : line ≡ [] → c' ≡ c → memory' ≡ memory → Ended t rest c memory line c' memory'
  refused : any_set (judged_by c (whole_words line) (bits_left line)) ≡ true → c' ≡ noted c (judged_by c (whole_words line) (bits_left line)) → memory' ≡ memory
      → Ended t rest c memory line c' memory'
  taken : (words : List ℕ) → Passes t c → (is_checked t.code ≡ true → words ≡ rest)
      → c' ≡ card_acted c (command_first t ∷ command_second t ∷ words) → memory' ≡ memory_acted c memory (command_first t ∷ command_second t ∷ words)
      → Ended t rest c memory line c' memory'

no-bits : (line : List Bool) → length line / 16 ≡ 0 → length line % 16 ≡ 0 → line ≡ []
no-bits [] h g = refl
no-bits (b ∷ line) h g = absurd (omega arith)

module _ (c : Card) (memory : List ℕ) (idle : Idle c memory) (line : List Bool) (short : length line ≤ 67 * 16) where
  abbrev ws : List ℕ
  ws = whole_words line

  few : length ws ≤ 67
  unfolding whole_words
  few = omega (arith, length-words (length line / 16) line)

  all-kept : take 67 ws ≡ ws
  all-kept = take_all 67 ws few

  pub card-held : card_after_line c memory line ≡ card_ended c ws (bits_left line)
  card-held = card-heard c memory idle line ∙ ap (λ (l : List ℕ). card_ended c l (bits_left line)) all-kept

  pub memory-held : memory_after_line c memory line ≡ memory_ended c memory ws (bits_left line)
  memory-held = memory-heard c memory idle line ∙ ap (λ (l : List ℕ). memory_ended c memory l (bits_left line)) all-kept

  ended : (t : Command) (rest : List ℕ) → (Whole c.size c.bases ws (bits_left line) → AsBuilt t rest c.size c.bases line)
      → Ended t rest c memory line (card_after_line c memory line) (memory_after_line c memory line)
  unfolding card_ended memory_ended unheard bits_left whole_words
  ended t rest built = rw (card-held, memory-held) (silent (unheard ws (bits_left line)) refl)
    where
      acts : (b : Bool) → any_set (judged_by c ws (bits_left line)) ≡ b
          → Ended t rest c memory line (cond b (noted c (judged_by c ws (bits_left line))) (card_acted c ws)) (cond b memory (memory_acted c memory ws))
      acts true e = refused e refl refl
      acts false e =
          let b : AsBuilt t rest c.size c.bases line = built (whole c.size c.bases ws (bits_left line) e) in
          taken b.payload b.passes b.same (ap (card_acted c) b.are) (ap (memory_acted c memory) b.are)

      silent : (b : Bool) → unheard ws (bits_left line) ≡ b
          → Ended t rest c memory line (cond b c (cond (any_set (judged_by c ws (bits_left line))) (noted c (judged_by c ws (bits_left line))) (card_acted c ws)))
          (cond b memory (cond (any_set (judged_by c ws (bits_left line))) memory (memory_acted c memory ws)))
      silent true e =
          let (count, left) = both (eqb (length ws) 0) _ e in
          ignored (no-bits line (sym (length-words (length line / 16) line) ∙ eqb-true _ _ count) (eqb-true _ _ left)) refl refl
      silent false e = acts (any_set (judged_by c ws (bits_left line))) refl

-- ---- any built command under any damage

-- a command sent
unfoldable pub sent : Command → List ℕ → Damage → Card → List ℕ → Crossed Card
sent t block d c memory = crossed heard d c memory (stream 16 (message t block))

-- what the card sees of a line
unfoldable pub seen : Damage → List Bool → List Bool
seen (unseen fill) line = []
seen (cut k fill) line = take k line
seen (bits_flipped i j) line = flipped i line

module _ (t : Command) (block : List ℕ) (s : Sendable t (payload t block)) (c : Card) (memory : List ℕ) (idle : Idle c memory) where
  abbrev built : List Bool
  built = stream 16 (message t block)

  pub built-long : length built ≤ 67 * 16
  unfolding message message_words
  built-long = go (eqb t.length 0) s.count
    where
      go : (b : Bool) → suc (suc (length (payload t block))) ≡ cond b 2 (t.length + 3) → length built ≤ 67 * 16
      go true h = omega (arith, length-stream (message t block))
      go false h = omega (arith, length-stream (message t block), limits t s.fits)

  cut-short : (k : ℕ) → length (take k built) ≤ 67 * 16
  cut-short k = omega (arith, length-take k built, built-long)

  flipped-short : (o : Flips) → length (flipped o built) ≤ 67 * 16
  flipped-short o = omega (arith, length-flipped o built, built-long)

  pub sent-ended : (d : Damage) → Ended t (payload t block) c memory (seen d built) (sent t block d c memory).side (sent t block d c memory).memory
  unfolding sent crossed heard seen message
  sent-ended (unseen fill) = ignored refl refl refl
  sent-ended (cut k fill) = ended c memory idle (take k built) (cut-short k) t (payload t block) (built-cut t (payload t block) s c.size c.bases k)
  sent-ended (bits_flipped i j) = ended c memory idle (flipped i built) (flipped-short i) t (payload t block) (built-flipped t (payload t block) s c.size c.bases i)

  pub sent-quiet : (d : Damage) → (sent t block d c memory).refused ≡ []
  unfolding sent crossed heard
  sent-quiet (unseen fill) = refl
  sent-quiet (cut k fill) = refusals-heard c memory idle (take k built)
  sent-quiet (bits_flipped i j) = refusals-heard c memory idle (flipped i built)

-- ---- after any message the card is idle again, and one that was run from power-up

pub crossed-idle : (c : Card) (memory : List ℕ) → Idle c memory → (d : Damage) (line : List Bool)
    → Idle (crossed heard d c memory line).side (crossed heard d c memory line).memory
unfolding crossed heard
crossed-idle c memory idle (unseen fill) line = idle
crossed-idle c memory idle (cut k fill) line = heard-idle c memory idle (take k line)
crossed-idle c memory idle (bits_flipped i j) line = heard-idle c memory idle (flipped i line)

run-after : {c : Card} → Run c → (memory ws : List ℕ) → Run (after c memory ws)
unfolding after
run-after r memory [] = r
run-after {c = c} r memory (w ∷ ws) = run-after {c = (exchanged c memory w).card} (word-run r memory w) memory ws

pub run-heard : {c : Card} → Run c → (memory : List ℕ) (line : List Bool) → Run (heard c memory line).side
unfolding heard card_after_line listened
run-heard r memory line = release (run-after (select r) memory (whole_words line)) (length memory) (bits_left line)
