-- A built response token reads good with its own fields and no wrong mark, and a good one is the token built from its fields.
-- Assumes nothing.
use Prim.Native.Nat.{ℕ, ◌+◌, ◌*◌, ◌/◌, ◌%◌, ◌^◌, ◌≤◌, ◌<◌}
use native.Mathlib.Nat.{mod-lt}
use native.Mathlib.Omega.{arith}
use mathlib.Core.Bool.{Bool, true, false}
use mathlib.Core.Path.{◌≡◌, refl, ap, ◌∙◌}
use borrow.Author.Tests.{eq-eqb}
use lib.Dec.{eqb, lit<}
use Rattle.bits.specs.Bits.{digit}
use Rattle.bits.proofs.Digits.{digit-lt, digit-odd}
use Rattle.token.specs.Marks.{at, with_check, good_marks, none_wrong}
use Rattle.token.specs.Response.{response_token_of, response_token, response_first, response_upper, response_second, response_marks, good_response, response_wrong, response_fields, response_read}
use Rattle.token.specs.declared.response.Response.{Response}
use Rattle.token.proofs.Good.{good-response}
use Rattle.token.proofs.Second.{peel, upper-kept, check-right, rebuilt}
use Rattle.token.proofs.Wrong.{none-wrong}

-- a bit read back from its digit
bit-back : (b : Bool) (n : ℕ) → n ≡ digit b → eqb n 1 ≡ b
bit-back true n e = rw e
bit-back false n e = rw e

module _ (f : Response) (fits : f.module_state ≤ 15) where
  smalls : (digit f.stf < 2) × (digit f.status.me < 2) × (digit f.status.ar < 2) × (digit f.status.ic < 2)
  smalls = (digit-lt f.stf, digit-lt f.status.me, digit-lt f.status.ar, digit-lt f.status.ic)

  response-upper : response_second f / 16 ≡ 0x878
  unfolding response_second
  response-upper = upper-kept (response_first f) response_upper refl

  pub response-good : good_response (response_first f) (response_second f) ≡ true
  unfolding good_response good_marks response_marks response_first response_second
  response-good =
      let a : at 15 14 (response_first f) ≡ 0b10 = omega (arith, fits, smalls) in
      let b : at 15 14 (response_second f) ≡ 0b10 = omega (arith, response-upper) in
      let d : at 9 4 (response_first f) ≡ 0 = omega (arith, fits, smalls) in
      let e : at 13 4 (response_second f) ≡ 0x078 = omega (arith, response-upper) in
      rw (eq-eqb _ _ a, eq-eqb _ _ b, eq-eqb _ _ d, eq-eqb _ _ e, check-right (response_first f) response_upper refl)

  pub response-none-wrong : response_wrong (response_first f) (response_second f) ≡ none_wrong
  unfolding response_wrong good_response
  response-none-wrong = none-wrong (response_marks (response_first f) (response_second f)) response-good

  pub response-fields : response_fields (response_first f) (response_second f) ≡ f
  unfolding response_fields response_first
  response-fields =
      let stf : at 13 13 (response_first f) ≡ digit f.stf = omega (arith, fits, smalls) in
      let me : at 12 12 (response_first f) ≡ digit f.status.me = omega (arith, fits, smalls) in
      let ar : at 11 11 (response_first f) ≡ digit f.status.ar = omega (arith, fits, smalls) in
      let ic : at 10 10 (response_first f) ≡ digit f.status.ic = omega (arith, fits, smalls) in
      let state : at 3 0 (response_first f) ≡ f.module_state = omega (arith, fits, smalls) in
      rw (bit-back f.stf _ stf, bit-back f.status.me _ me, bit-back f.status.ar _ ar, bit-back f.status.ic _ ic, state)

  pub response-reads-back : response_read (response_first f) (response_second f) ≡ record { good = true; wrong = none_wrong; fields = f }
  unfolding response_read
  response-reads-back = rw (response-good, response-none-wrong, response-fields)

-- the six upper bits of word 1
six : (n : ℕ) → n < 65536 → at 15 14 n ≡ 0b10 → n / 2 ^ 10 ≡ 0b10 * 16 + n / 2 ^ 13 % 2 * 8 + n / 2 ^ 12 % 2 * 4 + n / 2 ^ 11 % 2 * 2 + n / 2 ^ 10 % 2
six n h e =
    let top : n / 2 ^ 14 ≡ 0b10 = omega arith in
    joined (n / 2 ^ 14) (n / 2 ^ 13 % 2) (n / 2 ^ 12 % 2) (n / 2 ^ 11 % 2) (n / 2 ^ 10 % 2) (peel n 13 1) (peel n 12 1) (peel n 11 1) (peel n 10 1) ∙ rw top
  where
    joined : (q d₁ d₂ d₃ d₄ : ℕ) {q₁ q₂ q₃ q₄ : ℕ} → q₁ ≡ q * 2 + d₁ → q₂ ≡ q₁ * 2 + d₂ → q₃ ≡ q₂ * 2 + d₃ → q₄ ≡ q₃ * 2 + d₄
        → q₄ ≡ q * 16 + d₁ * 8 + d₂ * 4 + d₃ * 2 + d₄
    joined q d₁ d₂ d₃ d₄ e₁ e₂ e₃ e₄ = omega arith

module _ (first second : ℕ) (word : first < 65536) (word₂ : second < 65536) (good : good_response first second ≡ true) where
  pub response-first-rebuilt : response_first (response_fields first second) ≡ first
  unfolding response_fields response_first
  response-first-rebuilt =
      let g = good-response first second good in
      let d : (k : ℕ) → digit (eqb (first / 2 ^ k % 2) 1) ≡ first / 2 ^ k % 2 = λ k. digit-odd (first / 2 ^ k % 2) (mod-lt (first / 2 ^ k) (lit< tt)) in
      let whole : first ≡ first / 2 ^ 10 * 2 ^ 10 + at 3 0 first = omega (arith, peel first 0 4, peel first 4 6) in
      rw (d 13, d 12, d 11, d 10) (omega (arith, whole, six first word g.prefixes.0))

  pub response-second-rebuilt : response_second (response_fields first second) ≡ second
  unfolding response_second
  response-second-rebuilt =
      let g = good-response first second good in
      ap (λ (w : ℕ). with_check w response_upper) response-first-rebuilt
      ∙ rebuilt first second response_upper refl (omega (arith, peel second 4 10, peel second 14 2)) g.check

  pub response-rebuilt : response_token (response_fields first second) ≡ response_token_of first second
  response-rebuilt = rw (response-first-rebuilt, response-second-rebuilt)
