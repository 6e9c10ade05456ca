-- Helpers of the loader's functions: no contract of a public function cites them.
use Rattle.std.specs.Prelude.{ℕ, cond, eqb}
use Rattle.loader.specs.declared.Stage.{Stage}
use Rattle.loader.specs.declared.Stage.TheVariants.{Base, Block}

-- the stage of a number: any but 0 is the block's
abbrev pub stage_of : ℕ → Stage
stage_of number = cond (eqb number 0) Base Block

-- and the number of a stage
abbrev pub stage_number : Stage → ℕ
stage_number Base = 0
stage_number Block = 1
