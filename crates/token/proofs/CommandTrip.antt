-- A built command token reads good with its own fields and no wrong mark, and a good one is the token built from its fields.
-- Assumes nothing.
use Prim.Native.Nat.{ℕ, ◌/◌, ◌%◌, ◌≤◌, ◌<◌}
use native.Mathlib.Omega.{arith}
use mathlib.Core.Bool.{true, ◌&&◌}
use mathlib.Core.Path.{◌≡◌, ap, ◌∙◌}
use borrow.Author.Tests.{eq-eqb, leb-true}
use lib.Dec.{leb}
use Rattle.crc.proofs.Words.{crc4-lt}
use Rattle.token.specs.Command.{token_of, command_token, command_fits, command_first, command_upper, command_second, command_marks, good_command, command_wrong, command_fields, command_read}
use Rattle.token.specs.Marks.{at, with_check, good_marks, none_wrong}
use Rattle.token.specs.declared.command.Command.{Command}
use Rattle.token.proofs.Good.{both, good-command}
use Rattle.token.proofs.Second.{peel, upper-kept, check-right, rebuilt}
use Rattle.token.proofs.Wrong.{none-wrong}

-- fields fit a token where the builder's test says so
abbrev pub CommandFits : Command → Type 0
CommandFits f = command_fits f ≡ true

module _ (f : Command) (fits : CommandFits f) where
  pub limits : (f.code ≤ 63) × (f.length ≤ 63) × (f.sub_address ≤ 255)
  unfolding command_fits
  limits =
      let (front, sub) = both (leb f.code 63 && leb f.length 63) (leb f.sub_address 255) fits in
      let (code, len) = both (leb f.code 63) (leb f.length 63) front in
      (leb-true f.code 63 code, leb-true f.length 63 len, leb-true f.sub_address 255 sub)

  -- its words are words
  pub first-below : command_first f < 65536
  unfolding command_first
  first-below = omega (arith, limits)

  pub second-below : command_second f < 65536
  unfolding command_second with_check command_upper
  second-below = omega (arith, limits, crc4-lt (command_first f) (command_upper f))

  command-empty : command_upper f % 16 ≡ 0
  unfolding command_upper
  command-empty = omega arith

  command-upper : command_second f / 16 ≡ command_upper f / 16
  unfolding command_second
  command-upper = upper-kept (command_first f) (command_upper f) command-empty

  pub command-good : good_command (command_first f) (command_second f) ≡ true
  unfolding good_command good_marks command_marks command_first command_upper command_second
  command-good =
      let a : at 15 14 (command_first f) ≡ 0b01 = omega (arith, limits) in
      let b : at 15 14 (command_second f) ≡ 0b01 = omega (arith, limits, command-upper) in
      let d : at 7 6 (command_first f) ≡ 0b11 = omega (arith, limits) in
      let e : at 5 4 (command_second f) ≡ 0b11 = omega (arith, limits, command-upper) in
      rw (eq-eqb _ _ a, eq-eqb _ _ b, eq-eqb _ _ d, eq-eqb _ _ e, check-right (command_first f) (command_upper f) command-empty)

  pub command-none-wrong : command_wrong (command_first f) (command_second f) ≡ none_wrong
  unfolding command_wrong good_command
  command-none-wrong = none-wrong (command_marks (command_first f) (command_second f)) command-good

  pub command-fields : command_fields (command_first f) (command_second f) ≡ f
  unfolding command_fields
  command-fields =
      let a : at 13 8 (command_first f) ≡ f.code = unfold command_first in omega (arith, limits) in
      let b : at 5 0 (command_first f) ≡ f.length = unfold command_first in omega (arith, limits) in
      let d : at 13 6 (command_second f) ≡ f.sub_address = unfold command_upper in omega (arith, limits, command-upper) in
      rw (a, b, d)

  pub command-reads-back : command_read (command_first f) (command_second f) ≡ record { good = true; wrong = none_wrong; fields = f }
  unfolding command_read
  command-reads-back = rw (command-good, command-none-wrong, command-fields)

module _ (first second : ℕ) (word : first < 65536) (word₂ : second < 65536) (good : good_command first second ≡ true) where
  pub command-first-rebuilt : command_first (command_fields first second) ≡ first
  unfolding command_fields command_first
  command-first-rebuilt = let g = good-command first second good in omega (arith, peel first 0 6, peel first 6 2, peel first 8 6, peel first 14 2)

  pub command-second-rebuilt : command_second (command_fields first second) ≡ second
  unfolding command_fields command_upper command_second
  command-second-rebuilt =
      let g = good-command first second good in
      ap (λ (w : ℕ). with_check w (command_upper (command_fields first second))) command-first-rebuilt
      ∙ rebuilt first second (command_upper (command_fields first second)) (omega arith)
      (omega (arith, peel second 4 2, peel second 6 8, peel second 14 2)) g.check

  pub command-rebuilt : command_token (command_fields first second) ≡ token_of first second
  command-rebuilt = rw (command-first-rebuilt, command-second-rebuilt)
