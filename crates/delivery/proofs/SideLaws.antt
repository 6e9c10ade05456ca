-- What holds of every side, at words and at pins, whose states have a sound card: what the device's calls leave of it, over any number of messages.
-- Assumes nothing.
use Prim.Native.Nat.{ℕ}
use mathlib.Core.Path.{◌≡◌, refl, sym, ap, ◌∙◌}
use mathlib.Core.Bool.{Bool, true, false}
use mathlib.Core.List.{List, [], ◌∷◌, ◌++◌}
use lib.ListN.{length}
use Rattle.card.specs.Card.{module_set}
use Rattle.card.specs.Run as run
use Rattle.card.specs.declared.Card.{Card}
use Rattle.card.specs.declared.Port.{Port}
use Rattle.token.specs.declared.command.Command.{Command}
use Rattle.card.proofs.Holding.{Idle}
use Rattle.card.proofs.Sound.{Sound, run-sound}
use Rattle.pins.specs.Run as pins-run
use Rattle.pins.proofs.Pinned.{module-at-pins}
use Rattle.pins.proofs.Run.{run-pins}
use Rattle.delivery.specs.AnyCommand.{called, with_base}
use Rattle.delivery.specs.Play.{ModuleCall, settings}
use Rattle.delivery.specs.Delivery.{Side, in_words, at_pins, Kept}
use Rattle.delivery.proofs.Acts.{Took, acted-aside, acted-called, stored-moved}
use Rattle.delivery.proofs.Kept.{kept-self, kept-trans, kept-by, kept-loose, kept-strict, kept-based, Shut, based-shut}
use Rattle.delivery.proofs.Settings.{after_calls, settings-append, Aside, aside-trans, aside-based, kept-aside, set-aside, calls-kept, calls-based}

-- every state that was run from power-up has a sound card; a module-state call leaves its size, bases and port, and where the controller is alone
-- with the card does to it what it does to the card; and the state has been run from power-up afterwards
pub record Lawful (side : Side) : Type 0 where
  pub sound : {s : side.State} → side.Runs s → Sound (side.card s)
  pub set_stays : (s : side.State) → side.Runs s → (stf : Bool) (state : ℕ) → Aside (side.card s) (side.card (side.sets s stf state))
  pub same_set : side.alone ≡ true → (s : side.State) → side.Runs s → (stf : Bool) (state : ℕ)
      → side.card (side.sets s stf state) ≡ (module_set (side.card s) stf state).card
  pub runs_set : {s : side.State} → side.Runs s → (stf : Bool) (state : ℕ) → side.Runs (side.sets s stf state)

pub lawful-in-words : Lawful in_words
lawful-in-words = record { sound = run-sound; set_stays = λ c r. set-aside c; same_set = λ e c r stf state. refl; runs_set = run.set_module }

pub lawful-at-pins : Lawful at_pins
lawful-at-pins = record {
  sound = λ r. run-sound (run-pins r).run;
  set_stays = λ p r stf state. rw (module-at-pins p (run-pins r).in_range stf state) (set-aside p.card stf state);
  same_set = λ e p r stf state. module-at-pins p (run-pins r).in_range stf state;
  runs_set = pins-run.set_module;
}

-- a state that was run from power-up, with no message open, and a later one that was
pub record Starts (side : Side) (s s' : side.State) : Type 0 where
  pub run : side.Runs s
  pub idle : (side.card s).port.message.opened ≡ false
  pub run_later : side.Runs s'

module _ (side : Side) (l : Lawful side) where
  -- ---- the device's calls

  pub settings-runs : {s : side.State} → side.Runs s → (calls : List ModuleCall) → side.Runs (settings side.sets calls s)
  unfolding settings
  settings-runs r [] = r
  settings-runs {s = s} r (m ∷ calls) = settings-runs {s = side.sets s m.stf m.state} (l.runs_set r m.stf m.state) calls

  pub called-aside : {s : side.State} → side.Runs s → (calls : List ModuleCall) → Aside (side.card s) (called side s calls)
  unfolding settings
  called-aside r [] = record { size = refl; bases = refl; port = refl }
  called-aside {s = s} r (m ∷ calls) = aside-trans (l.set_stays s r m.stf m.state) (called-aside {s = side.sets s m.stf m.state} (l.runs_set r m.stf m.state) calls)

  called-card : side.alone ≡ true → {s : side.State} → side.Runs s → (calls : List ModuleCall) → called side s calls ≡ after_calls calls (side.card s)
  unfolding settings
  called-card e r [] = refl
  called-card e {s} r (m ∷ calls) =
      called-card e {s = side.sets s m.stf m.state} (l.runs_set r m.stf m.state) calls ∙ ap (after_calls calls) (l.same_set e s r m.stf m.state)

  -- more of them
  called-then : (s : side.State) (calls more : List ModuleCall) → called side s (calls ++ more) ≡ called side (settings side.sets calls s) more
  called-then s calls more = ap side.card (settings-append side.sets calls more s)

  more-aside : {s : side.State} → side.Runs s → (calls more : List ModuleCall) → Aside (called side s calls) (called side s (calls ++ more))
  more-aside {s} r calls more = rw (called-then s calls more) (called-aside (settings-runs r calls) more)

  called-more : side.alone ≡ true → {s : side.State} → side.Runs s → (calls more : List ModuleCall)
      → called side s (calls ++ more) ≡ after_calls more (called side s calls)
  called-more e {s} r calls more = called-then s calls more ∙ called-card e (settings-runs r calls) more

  -- ---- a card with no message open

  module _ {s : side.State} (r : side.Runs s) (idle : (side.card s).port.message.opened ≡ false) where
    pub side-idle : {memory : List ℕ} → length memory ≡ (side.card s).size → Idle (side.card s) memory
    side-idle lent = record { ranged = (l.sound r).ranged; closed = (l.sound r).closed idle; lent = lent }

    pub called-shut : (calls : List ModuleCall) → Shut (called side s calls)
    called-shut calls =
        record {
          ranged = (l.sound (settings-runs r calls)).ranged;
          closed = ap (λ (p : Port). p.message) (called-aside r calls).port ∙ (l.sound r).closed idle;
        }

    -- nothing sent yet: the write base is the card's own
    pub based-start : Kept side.alone (with_base (side.card s).bases.write_base (called side s [])) (side.card s)
    unfolding settings
    based-start = kept-self (side.card s) ((l.sound r).closed idle)

  -- ---- what is kept from a state to a later one, with the device's calls between them, is kept over more messages and calls

  module _ {s s' : side.State} (b : Starts side s s') (calls more : List ModuleCall) where
    pub later-kept : Kept side.alone (called side s calls) (side.card s') → Kept side.alone (called side s (calls ++ more)) (called side s' more)
    later-kept k =
        kept-by side.alone (kept-aside (more-aside b.run calls more) (called-aside b.run_later more) (kept-loose k))
        (λ e. rw (called-more e b.run calls more, called-card e b.run_later more) (calls-kept (called-shut b.run b.idle calls) (kept-strict k e) more))

    later-based : (base : ℕ) → Kept side.alone (with_base base (called side s calls)) (side.card s')
        → Kept side.alone (with_base base (called side s (calls ++ more))) (called side s' more)
    later-based base k =
        kept-by side.alone (kept-aside (aside-based base (more-aside b.run calls more)) (called-aside b.run_later more) (kept-loose k))
        (λ e. rw (called-more e b.run calls more, called-card e b.run_later more, ← calls-based base more (called side s calls))
        (calls-kept (based-shut (called-shut b.run b.idle calls) base) (kept-strict k e) more))

  -- with a write base that was set before
  pub based-kept : {s s' : side.State} → Starts side s s' → (base : ℕ) (c'' : Card) (calls more : List ModuleCall)
      → Kept side.alone (with_base base (called side s calls)) (side.card s') → Kept side.alone (called side s' more) c''
      → Kept side.alone (with_base base (called side s (calls ++ more))) c''
  based-kept b base c'' calls more k k' = kept-trans _ _ c'' (later-based b calls more base k) k'

  -- with one that is set over another
  pub based-based : {s s' : side.State} → Starts side s s' → (base base' : ℕ) (c'' : Card) (calls more : List ModuleCall)
      → Kept side.alone (with_base base (called side s calls)) (side.card s') → Kept side.alone (with_base base' (called side s' more)) c''
      → Kept side.alone (with_base base' (called side s (calls ++ more))) c''
  based-based {s} b base base' c'' calls more k k' =
      kept-trans _ _ c'' (kept-based base base' (called side s (calls ++ more)) (later-based b calls more base k)) k'

  -- a command that acted
  pub took-called : (t : Command) (block : List ℕ) {s s' : side.State} → Starts side s s' → (calls more : List ModuleCall) {memory memory' : List ℕ}
      → Took side.alone (called side s calls) memory t block (side.card s') memory'
      → Took side.alone (called side s (calls ++ more)) memory t block (called side s' more) memory'
  took-called t block {s} b calls more {memory} a =
      let aside = more-aside b.run calls more in
      record {
        passed = rw (aside.size, aside.bases) a.passed;
        card =
            kept-by side.alone
            (kept-aside (acted-aside t block aside) (called-aside b.run_later more) (kept-loose a.card))
            (λ e. rw (called-more e b.run calls more, called-card e b.run_later more)
            (acted-called t block (called-shut b.run b.idle calls) more (kept-strict a.card e)));
        stores = a.stores ∙ sym (stored-moved t block (called side s calls) (called side s (calls ++ more)) memory aside.bases);
      }
