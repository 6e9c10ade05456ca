-- A whole READ, told and taken by any calls, each lent a memory of its own: each word is read from the memory lent when it is told, and the check
-- is the CRC-16 of the words told and taken, whatever the device did to its memory between the calls.
-- Assumes nothing.
use Prim.Native.Nat.{ℕ, ◌+◌, ◌-◌, ◌≤◌, ◌<◌, min}
use native.Mathlib.Omega.{arith}
use mathlib.Core.Bool.{false, cond}
use mathlib.Core.List.{List, [], ◌∷◌, ◌++◌, append_assoc, append-nil}
use mathlib.Core.Option.{Option, none, some}
use mathlib.Core.Path.{◌≡◌, refl, sym, ap, subst, ◌∙◌}
use borrow.Author.Tests.{eq-eqb, ne_eqb, leb-true, leb-false, ltb-true, ltb-false, lt-ltb, le-ltb}
use lib.Dec.{eqb, leb, ltb}
use lib.ListN.{length, get_or, drop, length-append, length-drop, drop_of_length-le}
use Rattle.crc.specs.Crc.{crc16, crc16_after}
use Rattle.crc.proofs.Words.{crc16-append, crc16-none}
use Rattle.judge.specs.Judge.{word_place}
use Rattle.rules.specs.Refusals as refusal
use Rattle.rules.specs.Rules.{read}
use Rattle.rules.proofs.Cases.{by-test}
use Rattle.token.specs.Response.{any_set}
use Rattle.card.specs.Calls.{Call, tell, take_word, after_calls, last_given, or_else, sent_by}
use Rattle.card.specs.Card.{selected, word_refusal}
use Rattle.card.specs.Exchange.{fields, heard_status, read_word, passed_word, payload_word, next_word, word_told, check_after, taken, told, with_told}
use Rattle.card.specs.State.{emptied, note_of, no_note, with_message}
use Rattle.card.specs.declared.Card.{Card}
use Rattle.card.specs.declared.Note.{Note}
use Rattle.card.specs.Answers.{Told}
use Rattle.card.proofs.Cases.{selected-case, told-case, told-quiet, took-case, as-noted, none-told}
use Rattle.card.proofs.Laws.{length-small}
use Rattle.card.proofs.Telling.{select-clears}

-- ---- the running check

-- these words were sent since select: as many were counted, up to 67, and the running check is that of the words behind the token
record Sent (c : Card) (ws : List ℕ) : Type 0 where
  counted : c.port.message.count ≡ min (length ws) 67
  checked : c.port.message.check ≡ crc16 (drop 2 ws)

none-sent : (c : Card) → (selected c).refusal ≡ refusal.none → Sent (selected c).card []
unfolding emptied
none-sent c =
    selected-case (λ a. a.refusal ≡ refusal.none → Sent a.card []) c (λ n r h. absurd (r h))
    (λ r o h. record { counted = refl; checked = sym (crc16-none 0 (omega arith)) })

-- a word behind the token joins the check
drop-more : (ws : List ℕ) (w : ℕ) → 2 ≤ length ws → drop 2 (ws ++ (w ∷ [])) ≡ drop 2 ws ++ (w ∷ [])
drop-more [] w h = absurd (omega arith)
drop-more (v ∷ []) w h = absurd (omega arith)
drop-more (u ∷ v ∷ ws) w h = refl

module _ (c : Card) (ws : List ℕ) (s : Sent c ws) (sent : ℕ) where
  check-more : check_after c sent ≡ crc16 (drop 2 (ws ++ (sent ∷ [])))
  unfolding check_after
  check-more =
      by-test (λ (k : ℕ). k ≡ crc16 (drop 2 (ws ++ (sent ∷ [])))) (leb 2 c.port.message.count)
      (λ e. ap (λ (k : ℕ). crc16_after k (sent ∷ [])) s.checked
      ∙ sym (crc16-append 0 (drop 2 ws) (sent ∷ []))
      ∙ ap crc16 (sym (drop-more ws sent (omega (arith, leb-true 2 c.port.message.count e, s.counted)))))
      (λ e.
      let few : length ws < 2 = omega (arith, leb-false 2 c.port.message.count e, s.counted) in
      s.checked
      ∙ ap crc16 (drop_of_length-le ws {i = 2} (omega arith) ∙ sym (drop_of_length-le (ws ++ (sent ∷ [])) {i = 2} (simp length-append (omega arith)))))

  count-more : (word : ℕ) → (taken c word sent).count ≡ min (length (ws ++ (sent ∷ []))) 67
  unfolding taken
  count-more word =
      by-test (λ (k : ℕ). k ≡ min (length (ws ++ (sent ∷ []))) 67) (ltb c.port.message.count 67)
      (λ e. simp length-append (omega (arith, ltb-true c.port.message.count 67 e, s.counted)))
      (λ e. simp length-append (omega (arith, ltb-false c.port.message.count 67 e, s.counted)))

  taken-sent : (word : ℕ) → Sent (with_message c (taken c word sent)) (ws ++ (sent ∷ []))
  unfolding taken
  taken-sent word = record { counted = count-more word; checked = check-more }

-- the note of a card by what tell has given
note_for : Option ℕ → Note
note_for none = no_note
note_for (some w) = note_of w

module _ (c : Card) (memory : List ℕ) (quiet : word_refusal c (length memory) ≡ refusal.none) where
  -- what counts is what tell gave last, or would give
  goes-out : (before : Option ℕ) → c.port.message.note ≡ note_for before → word_told c memory ≡ or_else before (told c memory).word
  unfolding note_for or_else
  goes-out none e = none-told c memory (ap (λ (n : Note). n.told) e) ∙ sym (ap (λ (t : Told). t.word) (told-quiet c memory quiet))
  goes-out (some w) e = as-noted c memory (ap (λ (n : Note). n.told) e) ∙ ap (λ (n : Note). n.word) e

-- by any calls
sent-after : (c : Card) (before : Option ℕ) (ws : List ℕ) (calls : List Call) → c.port.message.note ≡ note_for before → Sent c ws
    → Sent (after_calls c calls) (ws ++ sent_by c before calls)
unfolding after_calls sent_by last_given note_for with_told taken
sent-after c before ws [] e s = rw append-nil s
sent-after c before ws (tell memory ∷ calls) e s =
    told-case (λ t. Sent (after_calls t.card calls) (ws ++ sent_by t.card (last_given before t) calls)) c memory
    (λ r. rw (ne_eqb _ _ r) (sent-after c before ws calls e s))
    (λ q. sent-after (with_told c memory) (some (next_word c memory)) ws calls refl (record { counted = s.counted; checked = s.checked }))
sent-after c before ws (take_word memory word ∷ calls) e s =
    took-case
    (λ a. Sent (after_calls a.card calls)
    (ws ++ cond (eqb a.refusal refusal.none) (or_else before (told c memory).word ∷ sent_by a.card none calls) (sent_by a.card before calls)))
    c memory word
    (λ r. rw (ne_eqb _ _ r) (sent-after c before ws calls e s))
    (λ q.
    let w : ℕ = or_else before (told c memory).word in
    let d : Card = with_message c (taken c word (word_told c memory)) in
    let one : Sent d (ws ++ (w ∷ [])) = rw (← goes-out c memory q before e) (taken-sent c ws s (word_told c memory) word) in
    subst (Sent (after_calls d calls)) (append_assoc ws (w ∷ []) (sent_by d none calls)) (sent-after d none (ws ++ (w ∷ [])) calls refl one))

-- ---- READ

-- the token of a READ that passes steps 1 to 3 has come
pub record Reads (c : Card) : Type 0 where
  pub passes : any_set (heard_status c) ≡ false
  pub code : (fields c).code ≡ read.code

-- what is told behind it
told-behind : (c : Card) (memory : List ℕ) (k : ℕ) → Reads c → c.port.message.count ≡ k + 2 → (told c memory).refusal ≡ refusal.none
    → (told c memory).word ≡ read_word memory (word_place c.bases.read_base (fields c).sub_address) (fields c).length c.port.message.check k
unfolding next_word payload_word passed_word
told-behind c memory k r count =
    told-case
    (λ t. t.refusal ≡ refusal.none → t.word ≡ read_word memory (word_place c.bases.read_base (fields c).sub_address) (fields c).length c.port.message.check k)
    c memory (λ refused h. absurd (refused h))
    (λ q h.
    let behind : k + 2 - 2 ≡ k = omega arith in
    rw (count, ne_eqb (k + 2) 0 (omega arith), ne_eqb (k + 2) 1 (omega arith), r.passes, eq-eqb _ _ r.code, behind))

-- each word is read from the memory lent when it is told
pub read-told : (c : Card) (memory : List ℕ) (k : ℕ) → Reads c → c.port.message.count ≡ k + 2 → (told c memory).refusal ≡ refusal.none
    → k < (fields c).length → (told c memory).word ≡ get_or memory (word_place c.bases.read_base (fields c).sub_address + k) 0
unfolding read_word
read-told c memory k r count quiet inside = told-behind c memory k r count quiet ∙ rw (lt-ltb k (fields c).length inside)

-- behind the n words of a READ its check is told: the CRC-16 of the n words told and taken since the token
pub read-check : (c : Card) (calls : List Call) (memory : List ℕ) → (selected c).refusal ≡ refusal.none →
    let d = after_calls (selected c).card calls in
    let sent = drop 2 (sent_by (selected c).card none calls) in
    Reads d → 0 < (fields d).length → d.port.message.count ≡ (fields d).length + 2 → (told d memory).refusal ≡ refusal.none
    → ((told d memory).word ≡ crc16 sent) × (length sent ≡ (fields d).length)
unfolding read_word note_for
read-check c calls memory opened r payload count quiet =
    let d : Card = after_calls (selected c).card calls in
    let n : ℕ = (fields d).length in
    let s : Sent d (sent_by (selected c).card none calls) = sent-after (selected c).card none [] calls (select-clears c opened) (none-sent c opened) in (
      told-behind d memory n r count quiet ∙ rw (le-ltb n n (omega arith), eq-eqb n n refl, lt-ltb 0 n payload) s.checked,
      length-drop 2 (sent_by (selected c).card none calls) ∙ omega (arith, s.counted, length-small d, count),
    )
