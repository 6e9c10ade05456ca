-- Demand 3 on one port of a card with two, while the other port is busy and none of the excluded commands of it is accepted: for the sure write, and
-- for a load; word by word and bit by bit. Where such calls are left out it holds for any command in the middle, and for setting the write base.
-- Assumes nothing.
use Prim.Native.Nat.{ℕ}
use mathlib.Core.Bool.{Bool, false}
use mathlib.Core.List.{List}
use mathlib.Core.Path.{◌≡◌, sym, ap, ◌∙◌, subst, subst₂}
use Rattle.judge.proofs.Laws.{never}
use Rattle.card.specs.declared.Card.{Card}
use Rattle.card.proofs.Holding.{Idle}
use Rattle.delivery.specs.Delivery.{Side, Premises, Meaning, SaysDone, NeverDone}
use Rattle.delivery.specs.Play.{Buffers, Going}
use Rattle.delivery.proofs.Demand3.{Demand3, demand-3}
use Rattle.delivery.proofs.Kept.{Like}
use Rattle.delivery.proofs.Settings.{Aside}
use Rattle.delivery.proofs.SideLaws.{Lawful}
use Rattle.listed.specs.declared.CardRecord.{CardRecord}
use Rattle.loader.specs.Loader.{LoadSaid}
use Rattle.loading.specs.Loading.{Slot, Unit, Before, Passages, EachMeets, no_card, one_more, LoadMeans, Each, no_slot, one_served, UnitMeans}
use Rattle.loading.proofs.Whole.{loading-holds}
use Rattle.two_ports.specs.Run as run
use Rattle.two_ports.specs.State.{view_from}
use Rattle.two_ports.specs.declared.PortRecord.{PortRecord}
use Rattle.two_ports.proofs.Drift.{module-drifts}
use Rattle.two_ports.proofs.Sound.{run-view-sound}
use Rattle.two_pins.specs.Run as pins-run
use Rattle.two_pins.proofs.Run.{run-port-pins}
use Rattle.beside.specs.Beside.{excluded, Holds, all_happen, accepted_by, Beside, beside_on, NoneOf, DeliveryBeside, UndamagedBeside, OddBaseBeside, LoadingBeside}
use Rattle.beside.specs.Layers.{Layer, ports_in_words, ports_at_pins}
use Rattle.beside.proofs.AtPins.{pin_machine}
use Rattle.beside.proofs.Barred.{beside_but, all-same}
use Rattle.beside.proofs.InWords.{word_machine}
use Rattle.beside.proofs.PinsBeside.{module-drift, pins-see}
use Rattle.beside.proofs.Walk.{Machine, Sees, all-shut, meets-beside}
use Rattle.beside.proofs.WholePlays.{play-same, load-same}
use Rattle.beside.proofs.WordsBeside.{drifts-like, words-see}

like-aside : {alone : Bool} {c c' : Card} → Like alone c c' → Aside c c'
like-aside l = record { size = l.size; bases = l.bases; port = l.port }

-- ---- with the excluded calls left out

lawful-in-words : (p : ℕ) → Lawful (beside_but ports_in_words excluded p)
lawful-in-words p = record {
  sound = λ r. run-view-sound r.run p r.names_port;
  set_stays = λ b r stf state. like-aside (drifts-like p b.state _ (module-drifts p b.state stf state));
  same_set = λ e. never (sym e);
  runs_set = λ {s} r stf state. record {
    run = run.set_module r.run stf state;
    names_port = r.names_port;
    active = ap (λ (x : PortRecord). x.active) (module-drifts p s.state stf state).record_stays ∙ r.active;
  };
}

pub left-out-in-words : (p : ℕ) → Demand3 (beside_but ports_in_words excluded p)
left-out-in-words p = demand-3 (beside_but ports_in_words excluded p) (record {
  lawful = lawful-in-words p;
  meets = λ b r memory idle line. meets-beside ports_in_words p word_machine (words-see p) b memory r idle line;
})

lawful-at-pins : (p : ℕ) → Lawful (beside_but ports_at_pins excluded p)
lawful-at-pins p = record {
  sound = λ r. run-view-sound (run-port-pins r.run).run p r.names_port;
  set_stays = λ b r stf state. like-aside (drifts-like p b.state.ports _ (module-drift p r.names_port b.state stf state).ports);
  same_set = λ e. never (sym e);
  runs_set = λ {s} r stf state. record {
    run = pins-run.set_module r.run stf state;
    names_port = r.names_port;
    active = ap (λ (x : PortRecord). x.active) (module-drift p r.names_port s.state stf state).ports.record_stays ∙ r.active;
  };
}

pub left-out-at-pins : (p : ℕ) → Demand3 (beside_but ports_at_pins excluded p)
left-out-at-pins p = demand-3 (beside_but ports_at_pins excluded p) (record {
  lawful = lawful-at-pins p;
  meets = λ b r memory idle line. meets-beside ports_at_pins p pin_machine (pins-see p) b memory r idle line;
})

-- ---- where none of them is accepted, nothing is left out

module _ (layer : Layer) (p : ℕ) (all : Demand3 (beside_but layer excluded p)) where
  abbrev free : Side
  free = beside_on layer p

  abbrev but : Side
  but = beside_but layer excluded p

  -- premises and meaning do not speak of how a message is heard
  pub premises : {s : Beside layer} {memory : List ℕ} {sub : ℕ} {block : List ℕ} {b : Buffers} → Premises free s memory sub block b
      → Premises but s memory sub block b
  premises h = record {
    run = h.run;
    idle = h.idle;
    lent = h.lent;
    sub_in_range = h.sub_in_range;
    short = h.short;
    words = h.words;
    room = h.room;
  }

  meaning : {s : Beside layer} {memory : List ℕ} {sub : ℕ} {block : List ℕ} {end : Going (Beside layer)} → Meaning but s memory sub block end
      → Meaning free s memory sub block end
  meaning m = record { done = m.done; unsure = m.unsure; ends = m.ends; unrefused = m.unrefused; kept = m.kept; runs = m.runs }

  delivered : DeliveryBeside layer excluded p
  delivered s memory sub block b h d calls none =
      meaning (subst (Meaning but s memory sub block) (play-same layer excluded p block b d calls _ none) (all.delivery s memory sub block b (premises h) d calls))

  undamaged : UndamagedBeside layer excluded p
  undamaged s memory sub block b h even inside calls none =
      subst SaysDone (play-same layer excluded p block b _ calls _ none) (all.undamaged s memory sub block b (premises h) even inside calls)

  odd-base : OddBaseBeside layer excluded p
  odd-base s memory sub block b h odd d calls none =
      subst (NeverDone memory) (play-same layer excluded p block b d calls _ none) (all.odd_base s memory sub block b (premises h) odd d calls)

  each-meets : {cards : List (Before (Beside layer))} → EachMeets free cards → EachMeets but cards
  each-meets no_card = no_card
  each-meets (one_more h rest) = one_more (record { run = h.run; idle = h.idle; lent = h.lent; sized = h.sized }) (each-meets rest)

  load-means : {b : Before (Beside layer)} {table : List ℕ} {said : LoadSaid} {end : Slot (Beside layer)} → LoadMeans but b table said end
      → LoadMeans free b table said end
  load-means m = record {
    every = m.every;
    only = m.only;
    loaded = m.loaded;
    stopped = m.stopped;
    ends = m.ends;
    base = m.base;
    kept = m.kept;
    runs = m.runs;
  }

  each-means : {table : List ℕ} {passages : Passages} {i : ℕ} {cards : List (Before (Beside layer))} {records : List CardRecord}
      {slots : List (Slot (Beside layer))} → Each but table passages i cards records slots → Each free table passages i cards records slots
  each-means no_slot = no_slot
  each-means (one_served m size whole rest) = one_served (load-means m) size whole (each-means rest)

  unit-means : {cards : List (Before (Beside layer))} {table : List ℕ} {passages : Passages} {end : Unit (Beside layer)}
      → UnitMeans but cards table passages end → UnitMeans free cards table passages end
  unit-means m = record { each = each-means m.each; over = m.over; unrefused = m.unrefused }

  loaded : LoadingBeside layer excluded p
  loaded cards table passages h words taken room none =
      unit-means
      (subst (UnitMeans but cards table passages) (load-same layer excluded p cards table passages none)
      (loading-holds but all cards table passages (each-meets h) words taken room))

-- ---- the demand's own sentences

pub delivery-beside : (p : ℕ) → DeliveryBeside ports_in_words excluded p
delivery-beside p = delivered ports_in_words p (left-out-in-words p)

pub undamaged-beside : (p : ℕ) → UndamagedBeside ports_in_words excluded p
undamaged-beside p = undamaged ports_in_words p (left-out-in-words p)

pub odd-base-beside : (p : ℕ) → OddBaseBeside ports_in_words excluded p
odd-base-beside p = odd-base ports_in_words p (left-out-in-words p)

pub loading-beside : (p : ℕ) → LoadingBeside ports_in_words excluded p
loading-beside p = loaded ports_in_words p (left-out-in-words p)

pub delivery-beside-at-pins : (p : ℕ) → DeliveryBeside ports_at_pins excluded p
delivery-beside-at-pins p = delivered ports_at_pins p (left-out-at-pins p)

pub undamaged-beside-at-pins : (p : ℕ) → UndamagedBeside ports_at_pins excluded p
undamaged-beside-at-pins p = undamaged ports_at_pins p (left-out-at-pins p)

pub odd-base-beside-at-pins : (p : ℕ) → OddBaseBeside ports_at_pins excluded p
odd-base-beside-at-pins p = odd-base ports_at_pins p (left-out-at-pins p)

pub loading-beside-at-pins : (p : ℕ) → LoadingBeside ports_at_pins excluded p
loading-beside-at-pins p = loaded ports_at_pins p (left-out-at-pins p)

-- ---- behind the last release

-- what the other port and the device do while the port used has no message open, so behind its last release too: with none of the excluded commands
-- accepted, the memory stays, and of the card that the port sees size, bases, status bits and last token
abbrev pub Rests : Layer → ℕ → Type 0
Rests layer p = (b : Beside layer) (memory : List ℕ) → (beside_on layer p).Runs b → Idle (view_from p (layer.ports b.state)) memory
    → (calls : List layer.Call) → NoneOf excluded (accepted_by layer p calls (record { state = b.state; memory = memory }))
    → let h = all_happen layer p calls (record { state = b.state; memory = memory }) in
    (h.memory ≡ memory) × Like false (view_from p (layer.ports b.state)) (view_from p (layer.ports h.state))

all-rest : (layer : Layer) (p : ℕ) (one : Machine layer) → Sees layer p one → Rests layer p
all-rest layer p one z b memory r idle calls none =
    let before : Holds layer.State = record { state = b.state; memory = memory } in
    let x = all-shut layer p one z calls memory b.state (z.runs_shut r memory idle) in
    let is : all_happen layer p calls before ≡ record { state = x.later; memory = memory } = sym (all-same layer excluded p calls before none) ∙ x.is in (
      ap (λ (h : Holds layer.State). h.memory) is,
      subst₂ (Like false) (z.seen_card b.state)
          (z.seen_card x.later ∙ ap (λ (h : Holds layer.State). view_from p (layer.ports h.state)) (sym is)) x.like,
    )

pub rests-in-words : (p : ℕ) → Rests ports_in_words p
rests-in-words p = all-rest ports_in_words p word_machine (words-see p)

pub rests-at-pins : (p : ℕ) → Rests ports_at_pins p
rests-at-pins p = all-rest ports_at_pins p pin_machine (pins-see p)
