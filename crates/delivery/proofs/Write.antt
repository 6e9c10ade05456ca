-- Demand 3 for the sure write: a use of any command in the middle, for every side.
-- Assumes nothing.
use Prim.Native.Nat.{ℕ, ◌≤◌}
use native.Mathlib.Omega.{arith}
use mathlib.Core.Path.{◌≡◌, refl, sym, ap, ◌∙◌}
use mathlib.Core.Bool.{false, true≢false}
use mathlib.Core.Logic.{◌⊎◌, inl, inr, ⊎_elim}
use mathlib.Core.List.{List, []}
use borrow.Author.Tests.{eq-eqb, eqb-true}
use lib.Dec.{lit≤}
use lib.ListN.{length}
use Rattle.bits.specs.Buffers.{written}
use Rattle.bits.specs.Lines.{AreWords}
use Rattle.token.specs.declared.command.Command.{Command}
use Rattle.judge.specs.Judge.{word_place}
use Rattle.judge.specs.declared.Bases.{Bases}
use Rattle.card.specs.declared.Card.{Card}
use Rattle.card.proofs.Closed.{card_acted}
use Rattle.controller.specs.Builder.{is_reading, message, block_fits}
use Rattle.controller.specs.Sure.{done_at, unsure_at, Said, verdict_of}
use Rattle.delivery.specs.AnyCommand.{Fates, Course, sure_command, EndsDone, EndsUnsure, Accepts, Acted, called, Sends, AnyCommand, NoDamage, AnyUndamaged}
use Rattle.delivery.specs.Delivery.{Side, EvenBase, Inside, BlockWritten, no_damage, sure_write, Kept, Meaning, Premises, Delivery, Undamaged, OddBase}
use Rattle.delivery.specs.Play.{ModuleCall, Going, Buffers, Damages, Calls}
use Rattle.delivery.proofs.Acts.{Took}
use Rattle.delivery.proofs.Effects.{write-acted, write-stored}
use Rattle.delivery.proofs.Judged.{write_of, write-fits, write-passes, write-even, write-inside}
use Rattle.delivery.proofs.Kept.{kept-trans, kept-either}
use Rattle.delivery.proofs.Machine.{in-state, going, fates_of, write-legs}
use Rattle.delivery.proofs.Sending.{acted-then, passes-accepted}
use Rattle.delivery.proofs.Settings.{Aside}
use Rattle.delivery.proofs.SideLaws.{Lawful, called-aside}

-- the premises of demand 3, but for the buffers
pub record WriteSends (side : Side) (s : side.State) (memory : List ℕ) (sub : ℕ) (block : List ℕ) : Type 0 where
  pub run : side.Runs s
  pub idle : (side.card s).port.message.opened ≡ false
  pub lent : length memory ≡ (side.card s).size
  pub sub_in_range : sub ≤ 255
  pub short : length block ≤ 63
  pub words : AreWords block

-- its meaning, of WRITE in the middle
pub record WriteMeans (side : Side) (s : side.State) (memory : List ℕ) (sub : ℕ) (block : List ℕ) (end : Course side.State) : Type 0 where
  pub done : EndsDone end → BlockWritten (side.card s) memory sub block end.memory
  pub unsure : EndsUnsure end → (end.memory ≡ memory) ⊎ BlockWritten (side.card s) memory sub block end.memory
  pub ends : EndsDone end ⊎ EndsUnsure end
  pub unrefused : end.refused ≡ []
  pub kept : Kept side.alone (called side s end.calls) (side.card end.side)
  pub runs : side.Runs end.side

module _ (side : Side) (l : Lawful side) where
  module _ (s : side.State) (memory : List ℕ) (sub : ℕ) (block : List ℕ) (p : WriteSends side s memory sub block) where
    abbrev w : Command
    w = write_of (length block) sub

    pub sends : Sends side s memory w block
    unfolding block_fits is_reading
    sends =
        record {
          run = p.run;
          idle = p.idle;
          lent = p.lent;
          fits = write-fits (length block) sub p.short p.sub_in_range;
          fits_block = eq-eqb (length block) (length block) refl;
          words = p.words;
          other = λ e. omega arith;
        }

    -- ---- a WRITE that acted, told of the card at the start

    module _ (calls : List ModuleCall) {c' : Card} {memory' : List ℕ} (a : Acted side.alone (called side s calls) memory w block c' memory') where
      took : Took side.alone (called side s calls) memory w block c' memory'
      took = acted-then side l sends calls a

      pub acted-written : BlockWritten (side.card s) memory sub block memory'
      acted-written =
          let same : Aside (side.card s) (called side s calls) = called-aside side l p.run calls in (
            rw same.bases at (write-even (length block) sub p.short p.sub_in_range (called side s calls).size (called side s calls).bases took.passed),
            rw (same.size, same.bases) at (write-inside (length block) sub p.short p.sub_in_range (called side s calls).size (called side s calls).bases took.passed),
            took.stores
                ∙ write-stored sub block p.short p.sub_in_range (called side s calls) memory
                ∙ ap (λ (b : Bases). written memory (word_place b.write_base sub) block) same.bases,
          )

      pub acted-kept : Kept side.alone (called side s calls) c'
      acted-kept =
          kept-trans (called side s calls) (card_acted (called side s calls) (message w block)) c' (kept-either side.alone (write-acted sub block p.short p.sub_in_range (called side s calls))) took.card

    -- and one whose base is even and whose block is inside is accepted
    pub inside-accepted : EvenBase (side.card s) → Inside (side.card s) sub block → Accepts (side.card s) memory w block
    inside-accepted even inside =
        passes-accepted side l sends (write-passes (length block) sub p.short p.sub_in_range (side.card s).size (side.card s).bases even inside)

  -- ---- WRITE in the middle

  pub write-means : AnyCommand side → (s : side.State) (memory : List ℕ) (sub : ℕ) (block : List ℕ) → WriteSends side s memory sub block → (f : Fates)
      → WriteMeans side s memory sub block (sure_command side s memory (write_of (length block) sub) block f)
  write-means any s memory sub block p f =
      let end : Course side.State = sure_command side s memory (write_of (length block) sub) block f in
      let m = any s memory (write_of (length block) sub) block (sends s memory sub block p) f in
      let acted = acted-written s memory sub block p end.calls in
      let kept = acted-kept s memory sub block p end.calls in
      record {
        done = λ v. acted (m.done v);
        unsure = λ v. ⊎_elim (λ (k, e). inl e) (λ a. inr (acted a)) (m.unsure v);
        ends = m.ends;
        unrefused = m.unrefused;
        kept = ⊎_elim (λ v. kept (m.done v)) (λ v. ⊎_elim (λ (k, e). k) (λ a. kept a) (m.unsure v)) m.ends;
        runs = m.runs;
      }

  pub write-undamaged : AnyUndamaged side → (s : side.State) (memory : List ℕ) (sub : ℕ) (block : List ℕ) → WriteSends side s memory sub block
      → EvenBase (side.card s) → Inside (side.card s) sub block
      → (f : Fates) → NoDamage f → EndsDone (sure_command side s memory (write_of (length block) sub) block f)
  write-undamaged any s memory sub block p even inside =
      any s memory (write_of (length block) sub) block (sends s memory sub block p) (inside-accepted s memory sub block p even inside)

-- ---- the sure write itself

module _ (side : Side) (l : Lawful side) (s : side.State) (memory : List ℕ) (sub : ℕ) (block : List ℕ) (b : Buffers) (p : Premises side s memory sub block b) where
  without-buffers : WriteSends side s memory sub block
  without-buffers = record { run = p.run; idle = p.idle; lent = p.lent; sub_in_range = p.sub_in_range; short = p.short; words = p.words }

  abbrev goes : Course side.State → Going side.State
  goes = going (length block) sub p.short p.sub_in_range

  module _ (end : Course side.State) (m : WriteMeans side s memory sub block end) where
    -- what the state says in the end
    said : verdict_of (goes end).state ≡ record { refusal = 0; done = done_at end.turn; unsure = unsure_at end.turn }
    unfolding verdict_of
    said =
        let small : end.turn ≤ 7 = ⊎_elim (λ e. omega (arith, eqb-true end.turn 6 e)) (λ e. omega (arith, eqb-true end.turn 7 e)) m.ends in
        rw (in-state (length block) sub p.short p.sub_in_range end.turn small)

    meaning : Meaning side s memory sub block (goes end)
    meaning =
        let done-is : (verdict_of (goes end).state).done ≡ done_at end.turn = ap (λ (v : Said). v.done) said in
        let unsure-is : (verdict_of (goes end).state).unsure ≡ unsure_at end.turn = ap (λ (v : Said). v.unsure) said in
        record {
          done = λ v. m.done (sym done-is ∙ v);
          unsure = λ v. m.unsure (sym unsure-is ∙ v);
          ends = ⊎_elim (λ e. inl (done-is ∙ e)) (λ e. inr (unsure-is ∙ e)) m.ends;
          unrefused = m.unrefused;
          kept = m.kept;
          runs = m.runs;
        }

  is-legs : (d : Damages) (calls : Calls)
      → sure_write side s memory sub block b d calls ≡ goes (sure_command side s memory (write_of (length block) sub) block (fates_of d calls))
  is-legs = write-legs side s memory sub block b p.short p.sub_in_range p.room

pub delivery-holds : (side : Side) → Lawful side → AnyCommand side → Delivery side
delivery-holds side l any s memory sub block b p d calls =
    rw (is-legs side l s memory sub block b p d calls)
    (meaning side l s memory sub block b p _ (write-means side l any s memory sub block (without-buffers side l s memory sub block b p) (fates_of d calls)))

pub undamaged-holds : (side : Side) → Lawful side → AnyUndamaged side → Undamaged side
unfolding verdict_of
undamaged-holds side l any s memory sub block b p even inside calls =
    let f : Fates = fates_of no_damage calls in
    let none : NoDamage f = record { first = refl; second = refl; third = refl } in
    let done = write-undamaged side l any s memory sub block (without-buffers side l s memory sub block b p) even inside f none in
    let six : (sure_command side s memory (write_of (length block) sub) block f).turn ≡ 6 = eqb-true _ 6 done in
    rw (is-legs side l s memory sub block b p no_damage calls, six, in-state (length block) sub p.short p.sub_in_range 6 (lit≤ tt))

-- an odd base: no block can be written by it
pub odd-base-holds : (side : Side) → Delivery side → OddBase side
odd-base-holds side holds s memory sub block b p odd d calls =
    let m = holds s memory sub block b p d calls in
    let none : EvenBase (side.card s) → ⊥ = λ even. true≢false (sym even ∙ odd) in
    let unsure = ⊎_elim (λ v. absurd (none (m.done v).0)) (λ v. v) m.ends in
    record { not_done = λ v. none (m.done v).0; unsure = unsure; unwritten = ⊎_elim (λ e. e) (λ w. absurd (none w.0)) (m.unsure unsure) }
