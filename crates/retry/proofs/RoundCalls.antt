-- The numbers of a state in range.
-- Assumes nothing.
use Prim.Native.Nat.{ℕ, ◌+◌, ◌*◌, ◌≤◌}
use native.Mathlib.Nat.{mul-le-mul_right}
use native.Mathlib.Omega.{arith}
use mathlib.Core.Bool.{true, false}
use mathlib.Core.Path.{◌≡◌}
use Rattle.token.specs.declared.command.Command.{Command}
use Rattle.token.proofs.CommandTrip.{limits}
use Rattle.retry.specs.Rounds.{may_start, out_of_rounds, laid_out}
use Rattle.retry.specs.declared.Rounds.{Rounds}
use Rattle.retry.proofs.StateLaws.{start-limits, repeats, in-range}
use Rattle.retry.proofs.WordLaws.{laid-most, message-short}

-- ---- ranges

-- a command and a number of rounds that may be started
pub record Small (t : Command) (most : ℕ) : Type 0 where
  pub code : t.code ≤ 63
  pub length : t.length ≤ 63
  pub sub_in_range : t.sub_address ≤ 255
  pub few : most ≤ 8

pub small : (t : Command) (most : ℕ) → may_start t most ≡ true → Small t most
small t most h =
    let s = start-limits t most h in
    let (code, len, sub) = limits t (repeats t s.repeats).fits in
    record { code = code; length = len; sub_in_range = sub; few = s.few }

-- a state in range: few words were laid out
module _ (s : Rounds) (inside : out_of_rounds s ≡ false) where
  pub laid-few : laid_out s ≤ 608
  laid-few =
      let low = small s.command s.most (in-range s inside).starts in
      let all : s.most * (s.command.length + 13) ≤ 8 * (s.command.length + 13) = mul-le-mul_right (s.command.length + 13) low.few in
      omega (arith, laid-most s inside, all, low.length)

pub ruleset words = (laid-few, message-short)
