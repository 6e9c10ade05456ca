-- A card while it holds some words of a message: one word more, and any number of them.
-- Assumes nothing.
use Prim.Native.Nat.{ℕ, zero, suc, ◌-◌, ◌≤◌, ◌<◌}
use native.Mathlib.Omega.{arith}
use mathlib.Core.Path.{◌≡◌, refl, sym, ap, ◌∙◌}
use mathlib.Core.Bool.{Bool, true, false}
use mathlib.Core.List.{List, [], ◌∷◌, ◌++◌, append_assoc, append-nil}
use borrow.Author.Tests.{ltb-true, ltb-false, eq-eqb}
use lib.Dec.{ltb}
use lib.ListN.{length, take, replicate, set, length-append, length-take}
use lib.Seq.{set-append_seam, take_all, take_at}
use Rattle.card.specs.Card.{word_refusal}
use Rattle.card.specs.Exchange.{Exchanged, told, exchanged, next_word, check_after, taken}
use Rattle.card.specs.State.{emptied, no_note, with_message, out_of_range}
use Rattle.card.specs.declared.Card.{Card}
use Rattle.card.proofs.Cases.{exchanged-quiet}
use Rattle.card.proofs.Laws.{InRange}
use Rattle.card.proofs.Sound.{not-out}
use Rattle.card.specs.Whole.{after, answers, listed, refusals}

-- no message is open and the message is empty, the state is in range, and the memory is the card's
pub record Idle (c : Card) (memory : List ℕ) : Type 0 where
  pub ranged : InRange c
  pub closed : c.port.message ≡ emptied false
  pub lent : length memory ≡ c.size

-- the 67 places with some words in them
unfoldable pub room : List ℕ → List ℕ
room ws = ws ++ replicate (67 - length ws) 0

-- the card with these words taken, and the running check
unfoldable pub holding : Card → List ℕ → ℕ → Card
holding c ws k = with_message c (record { opened = true; note = no_note; count = length ws; words = room ws; check = k })

-- the running check after one word more
unfoldable pub next_check : Card → List ℕ → List ℕ → ℕ → ℕ
next_check c memory ws k = check_after (holding c ws k) (next_word (holding c ws k) memory)

-- words with one more; what finds no room is dropped
unfoldable pub push : List ℕ → ℕ → List ℕ
push ws w = take 67 (ws ++ (w ∷ []))

unfoldable pub check_through : Card → List ℕ → List ℕ → ℕ → List ℕ → ℕ
check_through c memory ws k [] = k
check_through c memory ws k (v ∷ vs) = check_through c memory (push ws v) (next_check c memory ws k) vs

-- the words sent while these come in, and the one that would be next
unfoldable pub spoken : Card → List ℕ → List ℕ → ℕ → List ℕ → List ℕ
spoken c memory ws k [] = next_word (holding c ws k) memory ∷ []
spoken c memory ws k (v ∷ vs) = next_word (holding c ws k) memory ∷ spoken c memory (push ws v) (next_check c memory ws k) vs

-- ---- one word more

room-set : (ws : List ℕ) (w : ℕ) → length ws < 67 → set (room ws) (length ws) w ≡ room (ws ++ (w ∷ []))
unfolding room
room-set ws w h =
    let j : ℕ = 66 - length ws in
    let here : 67 - length ws ≡ suc j = omega arith in
    let there : 67 - length (ws ++ (w ∷ [])) ≡ j = simp length-append (omega arith) in
    ap (λ (n : ℕ). set (ws ++ replicate n 0) (length ws) w) here
    ∙ set-append_seam ws 0 (replicate j 0) w
    ∙ sym (append_assoc ws (w ∷ []) (replicate j 0))
    ∙ ap (λ (n : ℕ). (ws ++ (w ∷ [])) ++ replicate n 0) (sym there)

-- what is dropped once would be dropped later
take-twice : (n : ℕ) (xs ys : List ℕ) → take n (take n xs ++ ys) ≡ take n (xs ++ ys)
take-twice zero xs ys = refl
take-twice (suc n) [] ys = refl
take-twice (suc n) (x ∷ xs) ys = ap (λ (l : List ℕ). x ∷ l) (take-twice n xs ys)

push-on : (ws : List ℕ) (v : ℕ) (vs : List ℕ) → take 67 (push ws v ++ vs) ≡ take 67 (ws ++ (v ∷ vs))
unfolding push
push-on ws v vs = take-twice 67 (ws ++ (v ∷ [])) vs ∙ ap (take 67) (append_assoc ws (v ∷ []) vs)

pub push-short : (ws : List ℕ) (w : ℕ) → length (push ws w) ≤ 67
unfolding push
push-short ws w = simp length-take (omega arith)

module _ (c : Card) (memory : List ℕ) (idle : Idle c memory) where
  holding-range : (ws : List ℕ) (k : ℕ) → length ws ≤ 67 → out_of_range (holding c ws k) ≡ false
  unfolding holding
  holding-range ws k h = not-out (holding c ws k) (record { size = idle.ranged.size; count = h; module_state = idle.ranged.module_state })

  pub word-quiet : (ws : List ℕ) (k : ℕ) → length ws ≤ 67 → word_refusal (holding c ws k) (length memory) ≡ 0
  unfolding word_refusal holding
  word-quiet ws k h = rw (holding-range ws k h, eq-eqb _ _ idle.lent)

  -- tell gives it
  told-held : (ws : List ℕ) (k : ℕ) → length ws ≤ 67 → (told (holding c ws k) memory).word ≡ next_word (holding c ws k) memory
  unfolding told
  told-held ws k h = rw (word-quiet ws k h)

  -- one word, whether or not it finds room
  taken-held : (ws : List ℕ) (k w : ℕ) → length ws ≤ 67
      → with_message (holding c ws k) (taken (holding c ws k) w (next_word (holding c ws k) memory)) ≡ holding c (push ws w) (next_check c memory ws k)
  unfolding taken holding next_check push
  taken-held ws k w h = go (ltb (length ws) 67) refl
    where
      go : (b : Bool) → ltb (length ws) 67 ≡ b
          → with_message (holding c ws k) (taken (holding c ws k) w (next_word (holding c ws k) memory)) ≡ holding c (push ws w) (next_check c memory ws k)
      go true e =
          let free : length ws < 67 = ltb-true (length ws) 67 e in
          rw (e, room-set ws w free, take_all 67 (ws ++ (w ∷ [])) (simp length-append (omega arith)), length-append ws (w ∷ []))
      go false e =
          let all : length ws ≡ 67 = omega (arith, ltb-false (length ws) 67 e) in
          rw (e, take_at ws (w ∷ []) 67 all)

  pub step : (ws : List ℕ) (k w : ℕ) → length ws ≤ 67
      → exchanged (holding c ws k) memory w
      ≡ record { refusal = 0; card = holding c (push ws w) (next_check c memory ws k); sent = next_word (holding c ws k) memory }
  step ws k w h =
      exchanged-quiet (holding c ws k) memory w (word-quiet ws k h)
      ∙ ap (λ (d : Card). record { refusal = 0; card = d; sent = next_word (holding c ws k) memory }) (taken-held ws k w h)

  -- the card after some words, what it sent, and that it refused none
  pub after-held : (ws : List ℕ) (k : ℕ) (vs : List ℕ) → length ws ≤ 67
      → after (holding c ws k) memory vs ≡ holding c (take 67 (ws ++ vs)) (check_through c memory ws k vs)
  unfolding after check_through
  after-held ws k [] h = ap (λ (l : List ℕ). holding c l k) (sym (take_all 67 (ws ++ []) (rw append-nil h) ∙ append-nil ws))
  after-held ws k (v ∷ vs) h =
      ap (λ (e : Exchanged). after e.card memory vs) (step ws k v h)
      ∙ after-held (push ws v) (next_check c memory ws k) vs (push-short ws v)
      ∙ ap (λ (l : List ℕ). holding c l (check_through c memory (push ws v) (next_check c memory ws k) vs)) (push-on ws v vs)

  pub answers-held : (ws : List ℕ) (k : ℕ) (vs : List ℕ) → length ws ≤ 67
      → answers (holding c ws k) memory vs ++ ((told (after (holding c ws k) memory vs) memory).word ∷ []) ≡ spoken c memory ws k vs
  unfolding after answers spoken
  answers-held ws k [] h = ap (λ (w : ℕ). w ∷ []) (told-held ws k h)
  answers-held ws k (v ∷ vs) h =
      ap (λ (e : Exchanged). e.sent ∷ (answers e.card memory vs ++ ((told (after e.card memory vs) memory).word ∷ []))) (step ws k v h)
      ∙ ap (λ (l : List ℕ). next_word (holding c ws k) memory ∷ l) (answers-held (push ws v) (next_check c memory ws k) vs (push-short ws v))

  pub refusals-held : (ws : List ℕ) (k : ℕ) (vs : List ℕ) → length ws ≤ 67 → refusals (holding c ws k) memory vs ≡ []
  unfolding refusals listed
  refusals-held ws k [] h = refl
  refusals-held ws k (v ∷ vs) h =
      ap (λ (e : Exchanged). listed e.refusal ++ refusals e.card memory vs) (step ws k v h)
      ∙ refusals-held (push ws v) (next_check c memory ws k) vs (push-short ws v)

  -- an answer depends on the words before it alone
  pub spoken-before : (n : ℕ) (ws : List ℕ) (k : ℕ) (vs : List ℕ) → n ≤ length vs → spoken c memory ws k (take n vs) ≡ take (suc n) (spoken c memory ws k vs)
  unfolding spoken
  spoken-before zero ws k [] h = refl
  spoken-before zero ws k (v ∷ vs) h = refl
  spoken-before (suc n) ws k [] h = absurd (omega arith)
  spoken-before (suc n) ws k (v ∷ vs) h =
      ap (λ (l : List ℕ). next_word (holding c ws k) memory ∷ l) (spoken-before n (push ws v) (next_check c memory ws k) vs (omega arith))
