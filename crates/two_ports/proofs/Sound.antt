-- What every card with two ports has that was run from power-up: it is in range; the last token of each port is a good command token; where no word
-- is told the note's word is 0; and a port with no live message knows only whether it is selected. So each port sees a sound card.
-- Assumes nothing.
use Prim.Native.Nat.{ℕ}
use mathlib.Core.Bool.{Bool, true, false, not, ◌&&◌, and-false}
use mathlib.Core.List.{List}
use mathlib.Core.Path.{◌≡◌, refl, sym, ap, ◌∙◌, subst}
use Rattle.rules.specs.Refusals as refusal
use Rattle.judge.proofs.Laws.{never}
use Rattle.token.specs.Command.{good_command}
use Rattle.card.specs.Card.{powered}
use Rattle.card.specs.Exchange.{told, took}
use Rattle.card.specs.Release.{release_refusal, released}
use Rattle.card.specs.State.{emptied, fresh, sized}
use Rattle.card.specs.declared.Card.{Card}
use Rattle.card.specs.declared.Message.{Message}
use Rattle.card.proofs.Sound.{Sound, powered-sound, told-sound, took-sound, released-sound}
use Rattle.two_ports.specs.declared.PortRecord.{PortRecord}
use Rattle.two_ports.specs.declared.Ports.{Ports}
use Rattle.two_ports.specs.State.{no_bases, is_selected, live, fresh_port, fresh_ports, is_port, seen_from, view, view_from}
use Rattle.two_ports.specs.Ports.{powered_ports, module_ports, select_near, selected_ports, tell_near, told_ports, take_near, took_ports, switched_on, far_moved, release_live, release_dead, release_near, ports_release_refusal, released_ports}
use Rattle.two_ports.specs.Run.{RunPorts, power_up, set_module, select, tell, take_word, release}
use Rattle.two_ports.proofs.Cases.{unrefused, told-live, took-live, released-empty, powered-ports-case, module-ports-case, tell-near-case, take-near-case, release-near-case, moved-case}
use Rattle.two_ports.proofs.Frame.{seen-twice, seen-has, select-seen, tell-seen, take-seen, release-seen}
use Rattle.two_ports.proofs.Ranges.{PortsRange, seen-ranged, view-ranged, run-ranged}

-- ---- a port

-- no word is kept, and no bases: the port knows only whether it is selected. An open message was dropped.
pub record Forgotten (r : PortRecord) (selected : Bool) : Type 0 where
  pub message : r.port.message ≡ emptied selected
  pub dropped : r.dropped ≡ selected
  pub held : r.held ≡ no_bases

pub record RecordSound (r : PortRecord) : Type 0 where
  pub last : good_command r.port.last.first r.port.last.second ≡ true
  pub none_told : r.port.message.note.told ≡ false → r.port.message.note.word ≡ 0
  pub not_live : live r ≡ false → Forgotten r (is_selected r)

-- where it is not selected, nothing is left of a message
pub closed-not-live : (r : PortRecord) → is_selected r ≡ false → live r ≡ false
unfolding live
closed-not-live r h =
    ap (λ (o : Bool). r.active && o && not r.dropped) h ∙ ap (λ (b : Bool). b && not r.dropped) (and-false r.active)

pub closed-forgotten : (r : PortRecord) → RecordSound r → is_selected r ≡ false → Forgotten r false
closed-forgotten r s h = subst (Forgotten r) h (s.not_live (closed-not-live r h))

-- ---- what the near port sees

pub view-sound : (d : Ports) → PortsRange d → RecordSound d.near → Sound (view d)
unfolding view
view-sound d i s =
    record { ranged = view-ranged d i; last = s.last; closed = λ e. (closed-forgotten d.near s e).message; none_told = s.none_told }

-- ---- calls on the near port

-- a record whose message is live
live-sound : (r : PortRecord) (c : Card) → Sound c → r.port ≡ c.port → live r ≡ true → RecordSound r
live-sound r c s e l =
    record { last = rw e s.last; none_told = rw e s.none_told; not_live = λ f. never (sym l ∙ f) }

not-false-first : (a : Bool) → (a && true && not (not a)) ≡ false → a ≡ false
not-false-first true h = h
not-false-first false h = h

select-near-sound : (d : Ports) → RecordSound d.near → RecordSound (select_near d).near
unfolding select_near live emptied
select-near-sound d s =
    record { last = s.last; none_told = λ e. refl; not_live = λ f. go (not-false-first d.near.active f) }
  where
    go : d.near.active ≡ false → Forgotten (select_near d).near true
    go a = record { message = refl; dropped = ap not a; held = rw a }

tell-near-sound : (d : Ports) (memory : List ℕ) → PortsRange d → RecordSound d.near → RecordSound (tell_near d memory).near
tell-near-sound d memory i s =
    tell-near-case (λ e. RecordSound e.near) d memory
    (λ l. live-sound _ (told (view d) memory).card (told-sound (view d) memory (view-sound d i s)) refl (told-live d memory ∙ l))
    (λ l. s)

take-near-sound : (d : Ports) (memory : List ℕ) (word : ℕ) → PortsRange d → RecordSound d.near → RecordSound (take_near d memory word).near
take-near-sound d memory word i s =
    take-near-case (λ e. RecordSound e.near) d memory word
    (λ l. live-sound _ (took (view d) memory word).card (took-sound (view d) memory word (view-sound d i s)) refl (took-live d memory word ∙ l))
    (λ l. s)

moved-sound : (d : Ports) (left : ℕ) → RecordSound d.far → RecordSound (far_moved d left)
unfolding live emptied
moved-sound d left s =
    moved-case RecordSound d left
    (λ a e. record { last = s.last; none_told = s.none_told; not_live = λ f. on (s.not_live (go d.far.active f)) })
    (λ a e. record { last = s.last; none_told = λ t. refl; not_live = λ f. record { message = refl; dropped = refl; held = refl } })
    s
  where
    go : (a : Bool) → (is_selected d.far && not d.far.dropped) ≡ false → (a && is_selected d.far && not d.far.dropped) ≡ false
    go true f = f
    go false f = refl

    on : Forgotten d.far (is_selected d.far) → Forgotten (switched_on d.far) (is_selected d.far)
    on g = record { message = g.message; dropped = g.dropped; held = g.held }

ended-sound : (a : Bool) (c : Card) → Sound c → c.port.message ≡ emptied false
    → RecordSound (record { active = a; dropped = false; held = no_bases; port = c.port })
unfolding emptied
ended-sound a c s e =
    record {
      last = s.last;
      none_told = s.none_told;
      not_live = λ f. subst (Forgotten _) (sym (ap (λ (m : Message). m.opened) e)) (record { message = e; dropped = refl; held = refl });
    }

release-near-sound : (d : Ports) (size left : ℕ) → release_refusal (view d) size left ≡ refusal.none → PortsRange d → RecordSound d.near
    → RecordSound (release_near d size left).near
unfolding release_live release_dead emptied
release-near-sound d size left q i s =
    release-near-case (λ e. RecordSound e.near) d size left
    (λ l. ended-sound d.near.active (released (view d) size left).card (released-sound (view d) size left (view-sound d i s))
    (released-empty (view d) size left q))
    (λ l. record { last = s.last; none_told = λ t. refl; not_live = λ f. record { message = refl; dropped = refl; held = refl } })

-- ---- both ports, by every call

pub record RecordsSound (d : Ports) : Type 0 where
  pub near : RecordSound d.near
  pub far : RecordSound d.far

pub seen-sound : (p : ℕ) (d : Ports) → RecordsSound d → RecordsSound (seen_from p d)
seen-sound = seen-has RecordsSound (λ d s. record { near = s.far; far = s.near })

-- as a port sees it, and so as it is
back-sound : (p : ℕ) (d : Ports) → RecordsSound (seen_from p d) → RecordsSound d
back-sound p d s = subst RecordsSound (seen-twice p d) (seen-sound p (seen_from p d) s)

fresh-sound : RecordSound fresh_port
unfolding powered sized fresh
fresh-sound = ended-sound true (powered 1).card (powered-sound 1 refl) refl

powered-records : (size : ℕ) → RecordsSound (powered_ports size).ports
unfolding fresh_ports
powered-records size =
    powered-ports-case (λ a. RecordsSound a.ports) size (record { near = fresh-sound; far = fresh-sound })
    (λ e. record { near = fresh-sound; far = fresh-sound })

module-records : (d : Ports) (stf : Bool) (state : ℕ) → RecordsSound d → RecordsSound (module_ports d stf state).ports
module-records d stf state s =
    module-ports-case (λ a. RecordsSound a.ports) d stf state (λ r. s) (λ q. record { near = s.near; far = s.far })

module _ (d : Ports) (p : ℕ) (i : PortsRange d) (s : RecordsSound d) where
  seen : RecordsSound (seen_from p d)
  seen = seen-sound p d s

  select-records : RecordsSound (selected_ports d p).ports
  unfolding select_near
  select-records =
      back-sound p _ (select-seen RecordsSound d p (λ r. seen)
      (λ q. record { near = select-near-sound (seen_from p d) seen.near; far = seen.far }))

  tell-records : (memory : List ℕ) → RecordsSound (told_ports d p memory).ports
  tell-records memory =
      back-sound p _ (tell-seen RecordsSound d p memory (λ r. seen)
      (λ q. record {
        near = tell-near-sound (seen_from p d) memory (seen-ranged p d i) seen.near;
        far = tell-near-case (λ e. RecordSound e.far) (seen_from p d) memory (λ l. seen.far) (λ l. seen.far);
      }))

  take-records : (memory : List ℕ) (word : ℕ) → RecordsSound (took_ports d p memory word).ports
  take-records memory word =
      back-sound p _ (take-seen RecordsSound d p memory word (λ r. seen)
      (λ q. record {
        near = take-near-sound (seen_from p d) memory word (seen-ranged p d i) seen.near;
        far = take-near-case (λ e. RecordSound e.far) (seen_from p d) memory word (λ l. seen.far) (λ l. seen.far);
      }))

  release-records : (size left : ℕ) → RecordsSound (released_ports d p size left).ports
  unfolding ports_release_refusal release_live release_dead
  release-records size left =
      back-sound p _ (release-seen RecordsSound d p size left (λ r. seen)
      (λ q. record {
        near = release-near-sound (seen_from p d) size left (unrefused d p _ _ q).quiet (seen-ranged p d i) seen.near;
        far = release-near-case (λ e. RecordSound e.far) (seen_from p d) size left (λ l. moved-sound (seen_from p d) left seen.far) (λ l. seen.far);
      }))

-- ---- every card run from power-up

run-records : {d : Ports} → RunPorts d → RecordsSound d
run-records (power_up size h) = powered-records size
run-records (set_module {d = d} r stf state) = module-records d stf state (run-records r)
run-records (select {d = d} r p) = select-records d p (run-ranged r) (run-records r)
run-records (tell {d = d} r p memory) = tell-records d p (run-ranged r) (run-records r) memory
run-records (take_word {d = d} r p memory word) = take-records d p (run-ranged r) (run-records r) memory word
run-records (release {d = d} r p size left) = release-records d p (run-ranged r) (run-records r) size left

pub record SoundPorts (d : Ports) : Type 0 where
  pub ranged : PortsRange d
  pub records : RecordsSound d

pub run-ports-sound : {d : Ports} → RunPorts d → SoundPorts d
run-ports-sound r = record { ranged = run-ranged r; records = run-records r }

-- each port sees a sound card
pub sound-seen : (d : Ports) → SoundPorts d → (p : ℕ) → Sound (view_from p d)
sound-seen d s p = view-sound (seen_from p d) (seen-ranged p d s.ranged) (seen-sound p d s.records).near

pub run-view-sound : {d : Ports} → RunPorts d → (p : ℕ) → is_port p ≡ true → Sound (view_from p d)
run-view-sound {d} r p port = sound-seen d (run-ports-sound r) p
