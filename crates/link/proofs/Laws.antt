-- Laws of words on lines, and of damage.
-- Assumes nothing.
use mathlib.Core.Option.{none, some}
use Prim.Native.Nat.{ℕ, zero, suc, ◌+◌, ◌-◌, ◌≤◌, ◌<◌}
use native.Mathlib.Omega.{arith}
use mathlib.Core.Path.{◌≡◌, refl, sym, ap, ◌∙◌}
use mathlib.Core.Bool.{Bool, true, false}
use mathlib.Core.List.{List, [], ◌∷◌, ◌++◌}
use lib.ListN.{length, get_or, take, replicate, length-append, length-take, length-replicate, get_or-replicate, get_or-append}
use lib.Seq.{length-take-le, get_or-take, get_or-append-add}
use lib.Dec.{leb, ltb}
use borrow.Author.Tests.{leb-true, leb-false, ltb-true, ltb-false}
use Rattle.crc.specs.Errors.{Flip}
use Rattle.link.specs.Damage.{Flips, flip_at, flipped, filled}

-- ---- one bit turned over

pub none-flipped : (line : List Bool) → flipped none line ≡ line
unfolding flipped
none-flipped line = refl

pub length-flipped : (o : Flips) (line : List Bool) → length (flipped o line) ≡ length line
unfolding flipped flip_at
length-flipped none line = refl
length-flipped (some i) line = at i line
  where
    at : (i : ℕ) (line : List Bool) → length (flip_at i line) ≡ length line
    at i [] = refl
    at zero (b ∷ line) = refl
    at (suc i) (b ∷ line) = ap suc (at i line)

-- in two parts at most one bit of each is turned over
pub record Parted (o : Flips) (xs ys : List Bool) : Type 0 where
  pub front : Flips
  pub back : Flips
  pub joined : flipped o (xs ++ ys) ≡ flipped front xs ++ flipped back ys

pub parted : (o : Flips) (xs ys : List Bool) → Parted o xs ys
unfolding flipped flip_at
parted none xs ys = record { front = none; back = none; joined = refl }
parted (some i) xs ys = at i xs
  where
    at : (i : ℕ) (xs : List Bool) → Parted (some i) xs ys
    at i [] = record { front = none; back = some i; joined = refl }
    at zero (x ∷ xs) = record { front = some zero; back = none; joined = refl }
    at (suc i) (x ∷ xs) = more (at i xs)
      where
        more : Parted (some i) xs ys → Parted (some (suc i)) (x ∷ xs) ys
        more p = go p.front p.joined
          where
            go : (f : Flips) → flip_at i (xs ++ ys) ≡ flipped f xs ++ flipped p.back ys → Parted (some (suc i)) (x ∷ xs) ys
            go none e = record { front = none; back = p.back; joined = ap (λ (l : List Bool). x ∷ l) e }
            go (some f) e = record { front = some (suc f); back = p.back; joined = ap (λ (l : List Bool). x ∷ l) e }

-- a place on the line: this one bit is flipped
flip-at : (i : ℕ) (line : List Bool) → i < length line → Flip line (flip_at i line)
unfolding flip_at
flip-at i [] h = absurd (omega arith)
flip-at zero (b ∷ line) h = record { before = []; bit = b; after = line; was = refl; is = refl }
flip-at (suc i) (b ∷ line) h =
    let f = flip-at i line (omega arith) in
    record {
      before = b ∷ f.before;
      bit = f.bit;
      after = f.after;
      was = ap (λ (l : List Bool). b ∷ l) f.was;
      is = ap (λ (l : List Bool). b ∷ l) f.is;
    }

-- a place behind it: none is
pub flip-behind : (i : ℕ) (line : List Bool) → length line ≤ i → flip_at i line ≡ line
unfolding flip_at
flip-behind i [] h = refl
flip-behind zero (b ∷ line) h = absurd (omega arith)
flip-behind (suc i) (b ∷ line) h = ap (λ (l : List Bool). b ∷ l) (flip-behind i line (omega arith))

-- what is left of a line: the line itself, or one flipped bit
pub data Alike (sent got : List Bool) : Type 0 where
  same : got ≡ sent → Alike sent got
  one_flip : Flip sent got → Alike sent got

pub flipped-alike : (o : Flips) (line : List Bool) → Alike line (flipped o line)
unfolding flipped
flipped-alike none line = same refl
flipped-alike (some i) line = go (ltb i (length line)) refl
  where
    go : (b : Bool) → ltb i (length line) ≡ b → Alike line (flip_at i line)
    go true e = one_flip (flip-at i line (ltb-true i (length line) e))
    go false e = same (flip-behind i line (ltb-false i (length line) e))

-- ---- a line filled up

pub length-filled : (k : ℕ) (fill : Bool) (n : ℕ) (line : List Bool) → length line ≡ n → length (filled k fill n line) ≡ n
unfolding filled
length-filled k fill n line h = simp (length-append, length-take, length-replicate) (omega arith)

-- before the cut it is the line
pub filled-before : (k : ℕ) (fill : Bool) (n : ℕ) (line : List Bool) (p : ℕ) → length line ≡ n → p < n → p < k
    → get_or (filled k fill n line) p false ≡ get_or line p false
unfolding filled
filled-before k fill n line p h hn hk =
    get_or-append (take k line) _ false p (simp length-take (omega arith)) ∙ get_or-take k line p false hk

-- behind it, the fill
pub filled-behind : (k : ℕ) (fill : Bool) (n : ℕ) (line : List Bool) (p : ℕ) → length line ≡ n → p < n → k ≤ p
    → get_or (filled k fill n line) p false ≡ fill
unfolding filled
filled-behind k fill n line p h hn hk =
    let long : length (take k line) ≡ k = length-take-le k line (omega arith) in
    let far : p ≡ length (take k line) + (p - k) = omega arith in
    ap (λ (x : ℕ). get_or (take k line ++ replicate (n - k) fill) x false) far
    ∙ get_or-append-add (take k line) (replicate (n - k) fill) (p - k) false
    ∙ get_or-replicate (n - k) (p - k) fill false (omega arith)

-- two places that differ: the cut is not before them
pub filled-kept : (k : ℕ) (fill : Bool) (n : ℕ) (line : List Bool) (p q : ℕ) → length line ≡ n → p < q → q < n
    → (get_or (filled k fill n line) p false ≡ get_or (filled k fill n line) q false → ⊥) → p < k
filled-kept k fill n line p q h hp hn differ =
    go (leb k p) refl
  where
    go : (b : Bool) → leb k p ≡ b → p < k
    go true e =
        let behind : k ≤ p = leb-true k p e in
        absurd (differ (filled-behind k fill n line p h (omega arith) behind ∙ sym (filled-behind k fill n line q h hn (omega arith))))
    go false e = leb-false k p e
