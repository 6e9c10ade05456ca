-- The answers of a call can be told apart: built or checked, good, "not good" and refused never coincide.
-- Assumes nothing.
use Prim.Native.Nat.{ℕ, zero, suc, ◌+◌, ◌*◌, ◌%◌, ◌^◌, ◌≤◌, ◌<◌}
use native.Mathlib.Omega.{arith}
use mathlib.Core.Bool.{Bool, true, false, ◌||◌, false≢true}
use mathlib.Core.List.{List}
use mathlib.Core.Logic.{◌↔◌}
use mathlib.Core.Path.{◌≡◌, refl, ◌∙◌}
use borrow.Author.Tests.{eq-eqb, ne_eqb, eqb-true, eqb-false}
use lib.Dec.{eqb}
use lib.ListN.{length}
use Rattle.bits.specs.Bits.{digit}
use Rattle.bits.proofs.Digits.{digit-lt}
use Rattle.crc.proofs.Words.{crc16-lt}
use Rattle.rules.specs.Refusals as refusal
use Rattle.token.specs.Command.{command, command_fits, command_first, command_marks, good_command, command_wrong}
use Rattle.token.specs.Marks.{good_marks, any_wrong, wrong_marks}
use Rattle.token.specs.Response.{response_marks, good_response, response_wrong}
use Rattle.token.specs.declared.marks.Marks.{Marks}
use Rattle.token.proofs.Wrong.{any-wrong}
use Rattle.flight.specs.Flight.{refused, token_answer, word1, word2, wrong_number, command_number, command_answer, response_number, response_answer, check_answer}

-- what holds of an answer in one case of a test, and not in the other, tells the test
told : {P : Type 0} (test : Bool) → (test ≡ true → P) → (test ≡ false → P → ⊥) → P ↔ (test ≡ true)
told true holds fails = (λ p. refl, holds)
told false holds fails = (λ p. absurd (fails refl p), holds)

-- ---- refusals, by whatever number of document 01

pub refused-above-checks : (number : ℕ) → 1 ≤ number → 65536 ≤ refused number
refused-above-checks number h = omega arith

pub refused-below-tokens : (number : ℕ) → number ≤ 9 → refused number < 0x40000000
refused-below-tokens number h = omega arith

-- ---- the token builder

module _ (code length sub : ℕ) where
  pub token-built : command_fits (command code length sub) ≡ true → 0x40000000 ≤ token_answer code length sub
  unfolding token_answer command_first
  token-built fits = rw fits (omega arith)

  pub token-refused : command_fits (command code length sub) ≡ false → token_answer code length sub ≡ refused refusal.argument
  unfolding token_answer
  token-refused fits = rw fits

  pub token-told : (0x40000000 ≤ token_answer code length sub) ↔ (command_fits (command code length sub) ≡ true)
  token-told =
      told (command_fits (command code length sub)) token-built
      (λ fits high. omega (arith, token-refused fits))

-- ---- the token readers

wrong-by : (p s c : Bool) → (p || s || c) ≡ true → (1 ≤ digit p * 4 + digit s * 2 + digit c) × (digit p * 4 + digit s * 2 + digit c ≤ 7)
wrong-by true s c h = omega (arith, digit-lt s, digit-lt c)
wrong-by false true c h = omega (arith, digit-lt c)
wrong-by false false true h = omega arith
wrong-by false false false h = absurd (false≢true h)

-- of a token that is not good some mark is wrong, and its number is 1 to 7
wrong-small : (m : Marks) → good_marks m ≡ false → (1 ≤ wrong_number (wrong_marks m)) × (wrong_number (wrong_marks m) ≤ 7)
unfolding wrong_number any_wrong
wrong-small m bad =
    let w = wrong_marks m in
    wrong-by w.prefix w.spare w.check (any-wrong m ∙ rw bad)

-- an answer with bit 31, or of 1 to 7, is neither a refusal nor 0
apart : (good : Bool) (answer number : ℕ) → (good ≡ true → 2 ^ 31 ≤ answer) → (good ≡ false → (1 ≤ answer) × (answer ≤ 7)) → number ≤ 9
    → answer ≡ refused number → ⊥
apart true answer number high low most same = omega (arith, high refl)
apart false answer zero high low most same = omega (arith, low refl)
apart false answer (suc number) high low most same = omega (arith, low refl)

module _ (t : ℕ) where
  pub command-good : good_command (word1 t) (word2 t) ≡ true → 2 ^ 31 ≤ command_answer t
  unfolding command_answer command_number
  command-good good = rw good (omega arith)

  pub command-not-good : good_command (word1 t) (word2 t) ≡ false → (1 ≤ command_answer t) × (command_answer t ≤ 7)
  unfolding command_answer command_wrong good_command
  command-not-good bad = rw bad (wrong-small (command_marks (word1 t) (word2 t)) bad)

  pub command-told : (2 ^ 31 ≤ command_answer t) ↔ (good_command (word1 t) (word2 t) ≡ true)
  command-told = told (good_command (word1 t) (word2 t)) command-good (λ bad high. omega (arith, command-not-good bad))

  pub command-no-refusal : (number : ℕ) → number ≤ 9 → command_answer t ≡ refused number → ⊥
  command-no-refusal number = apart (good_command (word1 t) (word2 t)) (command_answer t) number command-good command-not-good

  pub response-good : good_response (word1 t) (word2 t) ≡ true → 2 ^ 31 ≤ response_answer t
  unfolding response_answer response_number
  response-good good = rw good (omega arith)

  pub response-not-good : good_response (word1 t) (word2 t) ≡ false → (1 ≤ response_answer t) × (response_answer t ≤ 7)
  unfolding response_answer response_wrong good_response
  response-not-good bad = rw bad (wrong-small (response_marks (word1 t) (word2 t)) bad)

  pub response-told : (2 ^ 31 ≤ response_answer t) ↔ (good_response (word1 t) (word2 t) ≡ true)
  response-told = told (good_response (word1 t) (word2 t)) response-good (λ bad high. omega (arith, response-not-good bad))

  pub response-no-refusal : (number : ℕ) → number ≤ 9 → response_answer t ≡ refused number → ⊥
  response-no-refusal number = apart (good_response (word1 t) (word2 t)) (response_answer t) number response-good response-not-good

-- ---- the payload check

module _ (bytes : List ℕ) where
  pub check-given : length bytes % 2 ≡ 0 → check_answer bytes < 65536
  unfolding check_answer
  check-given even = rw (eq-eqb _ _ even) (crc16-lt 0 _)

  pub check-refused : (length bytes % 2 ≡ 0 → ⊥) → check_answer bytes ≡ refused refusal.argument
  unfolding check_answer
  check-refused odd = rw (ne_eqb _ _ odd)

  pub check-told : (check_answer bytes < 65536) ↔ (eqb (length bytes % 2) 0 ≡ true)
  check-told =
      told (eqb (length bytes % 2) 0) (λ even. check-given (eqb-true _ _ even))
      (λ odd low. omega (arith, check-refused (eqb-false _ _ odd)))
