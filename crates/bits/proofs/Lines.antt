-- Words on lines: there and back, part by part, and known by their bits.
-- Assumes nothing.
use Prim.Native.Nat.{ℕ, zero, suc, ◌+◌, ◌-◌, ◌*◌, ◌^◌, ◌≤◌, ◌<◌}
use native.Mathlib.Nat.{mod-eq_of_lt, lt_of_lt_of_le}
use native.Mathlib.Omega.{arith}
use mathlib.Core.Path.{◌≡◌, refl, sym, ap, ap₂, ◌∙◌}
use mathlib.Core.Bool.{Bool}
use mathlib.Core.List.{List, [], ◌∷◌, ◌++◌, append_assoc}
use lib.ListN.{length, get_or, take, drop, length-append, length-take, length-drop, take-append-drop}
use lib.Seq.{take_at, drop_at, take-append-add, length-take-le}
use lib.Pow.{pow_mono}
use lib.Dec.{lit<}
use Rattle.bits.specs.Bits.{bits, number, stream}
use Rattle.bits.specs.Lines.{AreWords, words}
use Rattle.bits.proofs.Digits.{length-bits, number-bits, bits-number, number-lt}

pub stream-append : (k : ℕ) (xs ys : List ℕ) → stream k (xs ++ ys) ≡ stream k xs ++ stream k ys
unfolding stream
stream-append k [] ys = refl
stream-append k (x ∷ xs) ys = ap (λ (l : List Bool). bits k x ++ l) (stream-append k xs ys) ∙ sym (append_assoc (bits k x) (stream k xs) (stream k ys))

-- words of k bits are known by their bits
pub stream-injective : (k : ℕ) (xs ys : List ℕ) → ((i : ℕ) → get_or xs i 0 < 2 ^ k) → ((i : ℕ) → get_or ys i 0 < 2 ^ k) → length xs ≡ length ys
    → stream k xs ≡ stream k ys → xs ≡ ys
unfolding stream
stream-injective k [] [] hx hy e q = refl
stream-injective k [] (y ∷ ys) hx hy e q = absurd (omega arith)
stream-injective k (x ∷ xs) [] hx hy e q = absurd (omega arith)
stream-injective k (x ∷ xs) (y ∷ ys) hx hy e q =
    let same : bits k x ≡ bits k y
    = sym (take_at (bits k x) (stream k xs) k (length-bits k x)) ∙ ap (take k) q ∙ take_at (bits k y) (stream k ys) k (length-bits k y) in
    let rest : stream k xs ≡ stream k ys
    = sym (drop_at (bits k x) (stream k xs) k (length-bits k x)) ∙ ap (drop k) q ∙ drop_at (bits k y) (stream k ys) k (length-bits k y) in
    ap₂ ◌∷◌
    (sym (number-bits k x ∙ mod-eq_of_lt (hx 0)) ∙ ap number same ∙ number-bits k y ∙ mod-eq_of_lt (hy 0))
    (stream-injective k xs ys (λ i. hx (suc i)) (λ i. hy (suc i)) (omega arith) rest)

-- ---- words

pub length-stream : (ws : List ℕ) → length (stream 16 ws) ≡ length ws * 16
unfolding stream
length-stream [] = refl
length-stream (w ∷ ws) = simp (length-append, length-bits) (omega (arith, length-stream ws))

pub length-words : (n : ℕ) (line : List Bool) → length (words n line) ≡ n
unfolding words
length-words zero line = refl
length-words (suc n) line = ap suc (length-words n (drop 16 line))

pub stream-words : (n : ℕ) (line : List Bool) → length line ≡ n * 16 → stream 16 (words n line) ≡ line
unfolding stream words
stream-words zero [] h = refl
stream-words zero (b ∷ line) h = absurd (omega arith)
stream-words (suc n) line h =
    let long : length (take 16 line) ≡ 16 = length-take-le 16 line (omega arith) in
    let one : bits 16 (number (take 16 line)) ≡ take 16 line = rw long at (bits-number (take 16 line)) in
    ap₂ ◌++◌ one (stream-words n (drop 16 line) (length-drop 16 line ∙ omega arith)) ∙ take-append-drop 16 line

-- a word read off its bits
number-word : (w : ℕ) → w < 65536 → number (bits 16 w) ≡ w
number-word w h = number-bits 16 w ∙ mod-eq_of_lt h

-- the first words of a line that goes on as it likes
pub words-stream : (ws : List ℕ) (rest : List Bool) → AreWords ws → words (length ws) (stream 16 ws ++ rest) ≡ ws
unfolding stream words AreWords
words-stream [] rest h = refl
words-stream (w ∷ ws) rest h =
    let joined : stream 16 (w ∷ ws) ++ rest ≡ bits 16 w ++ (stream 16 ws ++ rest) = append_assoc (bits 16 w) (stream 16 ws) rest in
    ap₂ ◌∷◌
    (ap number (ap (take 16) joined ∙ take_at (bits 16 w) _ 16 (length-bits 16 w)) ∙ number-word w (h 0))
    (ap (words (length ws)) (ap (drop 16) joined ∙ drop_at (bits 16 w) _ 16 (length-bits 16 w)) ∙ words-stream ws rest (λ i. h (suc i)))

-- the first n words of the first k bits, where they are whole
pub words-take : (n : ℕ) (ws : List ℕ) (k : ℕ) → AreWords ws → n ≤ length ws → n * 16 ≤ k → words n (take k (stream 16 ws)) ≡ take n ws
unfolding stream words AreWords
words-take zero ws k h hn hk = refl
words-take (suc n) [] k h hn hk = absurd (omega arith)
words-take (suc n) (w ∷ ws) k h hn hk =
    let j : ℕ = k - 16 in
    let far : k ≡ 16 + j = omega arith in
    let first : take k (stream 16 (w ∷ ws)) ≡ bits 16 w ++ take j (stream 16 ws)
    = ap (λ (x : ℕ). take x (stream 16 (w ∷ ws))) (far ∙ ap (λ (x : ℕ). x + j) (sym (length-bits 16 w))) ∙ take-append-add (bits 16 w) (stream 16 ws) j in
    ap₂ ◌∷◌
    (ap number (ap (take 16) first ∙ take_at (bits 16 w) _ 16 (length-bits 16 w)) ∙ number-word w (h 0))
    (ap (words n) (ap (drop 16) first ∙ drop_at (bits 16 w) _ 16 (length-bits 16 w)) ∙ words-take n ws j (λ i. h (suc i)) (omega arith) (omega arith))

-- what is read is words
pub words-below : (n : ℕ) (line : List Bool) → AreWords (words n line)
unfolding words AreWords
words-below zero line i = lit< tt
words-below (suc n) line zero =
    lt_of_lt_of_le (number-lt (take 16 line)) (pow_mono {i = length (take 16 line)} {j = 16} (omega (arith, length-take 16 line)))
words-below (suc n) line (suc i) = words-below n (drop 16 line) i

-- of two words and more: the two, and the others
pub words-two : (x y : ℕ) (ws : List ℕ) → AreWords (x ∷ y ∷ ws) → AreWords (x ∷ y ∷ [])
unfolding AreWords
words-two x y ws h zero = h 0
words-two x y ws h (suc zero) = h 1
words-two x y ws h (suc (suc i)) = lit< tt

pub words-more : (x y : ℕ) (ws : List ℕ) → AreWords (x ∷ y ∷ ws) → AreWords ws
unfolding AreWords
words-more x y ws h i = h (suc (suc i))
