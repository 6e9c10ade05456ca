-- A built token is read back as its own fields; each field, and each wrong mark, stands at the bits that it is said to stand at.
-- Assumes nothing.
use Prim.Native.Nat.{ℕ, ◌<◌}
use native.Mathlib.Omega.{arith}
use mathlib.Core.Bool.{true, false}
use mathlib.Core.Path.{◌≡◌}
use Rattle.bits.specs.Bits.{digit}
use Rattle.bits.proofs.Digits.{digit-lt}
use Rattle.token.specs.Command.{command, command_fits, command_first, command_second, good_command, command_wrong, command_fields}
use Rattle.token.specs.Marks.{at}
use Rattle.token.specs.Response.{good_response, response_wrong, response_fields}
use Rattle.token.specs.declared.marks.Wrong.{Wrong}
use Rattle.token.specs.declared.response.Response.{Response}
use Rattle.token.proofs.CommandTrip.{second-below, command-good, command-fields}
use Rattle.flight.specs.Flight.{token_answer, word1, word2, wrong_number, command_number, command_answer, response_number, response_answer}

module _ (code length sub : ℕ) (fits : command_fits (command code length sub) ≡ true) where
  pub token-words : (word1 (token_answer code length sub) ≡ command_first (command code length sub))
      × (word2 (token_answer code length sub) ≡ command_second (command code length sub))
  unfolding token_answer
  token-words =
      let small = second-below (command code length sub) fits in
      rw fits (omega arith, omega arith)

  pub token-read-back : command_answer (token_answer code length sub) ≡ command_number (command code length sub)
  unfolding command_answer
  token-read-back = rw (token-words.0, token-words.1, command-good (command code length sub) fits, command-fields (command code length sub) fits)

-- the fields of a good command token at bits 21-16, 13-8 and 7-0
pub command-bits : (t : ℕ) → good_command (word1 t) (word2 t) ≡ true
    → command (at 21 16 (command_answer t)) (at 13 8 (command_answer t)) (at 7 0 (command_answer t)) ≡ command_fields (word1 t) (word2 t)
unfolding command_answer command_number command_fields
command-bits t good =
    let f = command_fields (word1 t) (word2 t) in
    let number : command_answer t ≡ command_number f = rw good in
    let code : at 21 16 (command_answer t) ≡ f.code = omega arith in
    let length : at 13 8 (command_answer t) ≡ f.length = omega arith in
    let sub : at 7 0 (command_answer t) ≡ f.sub_address = omega arith in
    rw (code, length, sub)

-- the fields of a good response token: STF at bit 7, ME at 6, AR at 5, IC at 4, module state at 3-0
pub record ResponseBits (f : Response) (answer : ℕ) : Type 0 where
  pub stf : at 7 7 answer ≡ digit f.stf
  pub me : at 6 6 answer ≡ digit f.status.me
  pub ar : at 5 5 answer ≡ digit f.status.ar
  pub ic : at 4 4 answer ≡ digit f.status.ic
  pub module_state : at 3 0 answer ≡ f.module_state

pub response-bits : (t : ℕ) → good_response (word1 t) (word2 t) ≡ true → ResponseBits (response_fields (word1 t) (word2 t)) (response_answer t)
unfolding response_answer response_number
response-bits t good =
    let f = response_fields (word1 t) (word2 t) in
    let number : response_answer t ≡ response_number f = rw good in
    let state : f.module_state < 16 = unfold response_fields in omega arith in
    let s = digit-lt f.stf in
    let m = digit-lt f.status.me in
    let a = digit-lt f.status.ar in
    let i = digit-lt f.status.ic in
    record { stf = omega arith; me = omega arith; ar = omega arith; ic = omega arith; module_state = omega arith }

-- the wrong marks of a token that is not good: prefix at bit 2, spare at 1, CRC-4 at 0
pub record WrongBits (w : Wrong) (answer : ℕ) : Type 0 where
  pub prefix : at 2 2 answer ≡ digit w.prefix
  pub spare : at 1 1 answer ≡ digit w.spare
  pub check : at 0 0 answer ≡ digit w.check

wrong-bits : (w : Wrong) → WrongBits w (wrong_number w)
unfolding wrong_number
wrong-bits w =
    let p = digit-lt w.prefix in
    let s = digit-lt w.spare in
    let c = digit-lt w.check in
    record { prefix = omega arith; spare = omega arith; check = omega arith }

pub command-wrong-bits : (t : ℕ) → good_command (word1 t) (word2 t) ≡ false → WrongBits (command_wrong (word1 t) (word2 t)) (command_answer t)
unfolding command_answer
command-wrong-bits t bad = rw bad (wrong-bits (command_wrong (word1 t) (word2 t)))

pub response-wrong-bits : (t : ℕ) → good_response (word1 t) (word2 t) ≡ false → WrongBits (response_wrong (word1 t) (word2 t)) (response_answer t)
unfolding response_answer
response-wrong-bits t bad = rw bad (wrong-bits (response_wrong (word1 t) (word2 t)))
