-- Bit by bit: a port of a card with two, behind its shifter and beside another that is busy, goes as a card with one port behind its shifter.
-- Assumes nothing.
use Prim.Native.Nat.{ℕ, zero, suc, ◌-◌, ◌≤◌}
use native.Mathlib.Omega.{arith}
use mathlib.Core.Path.{◌≡◌, refl, sym, ap, ap₂, ◌∙◌, subst, subst₂}
use mathlib.Core.Bool.{Bool, true, false, cond}
use mathlib.Core.List.{List, [], ◌∷◌}
use borrow.Author.Tests.{le-ltb, leb-true}
use lib.Dec.{eqb}
use lib.ListN.{length}
use Rattle.rules.specs.Refusals as refusal
use Rattle.rules.proofs.Cases.{by-test, by-number}
use Rattle.card.specs.Card.{selected}
use Rattle.card.specs.Release.{released, memory_after}
use Rattle.card.specs.State.{emptied}
use Rattle.card.specs.declared.Card.{Card}
use Rattle.card.specs.Answers.{CardAfter}
use Rattle.card.specs.declared.Message.{Message}
use Rattle.card.proofs.Holding.{Idle}
use Rattle.card.proofs.Refusals.{released-number}
use Rattle.shifter.specs.Shifter.{cleared, left_over}
use Rattle.shifter.specs.Answers.{LeftOver}
use Rattle.shifter.specs.declared.Shifter.{Shifter}
use Rattle.pins.specs.Pins.{pins_of, shifter_refusal, behind_shifter, selected_pins, released_pins, memory_after_pins}
use Rattle.pins.specs.declared.Pins.{Pins}
use Rattle.pins.specs.Answers.{PinsAfter}
use Rattle.delivery.proofs.Kept.{Like, like-same}
use Rattle.two_ports.specs.Ports.{module_ports, selected_ports, ports_word_refusal, released_ports, memory_after_ports}
use Rattle.two_ports.specs.State.{is_port, seen_from, view, view_from}
use Rattle.two_ports.specs.declared.Ports.{Ports}
use Rattle.two_ports.proofs.Cases.{is-live}
use Rattle.two_ports.proofs.Drift.{Drifts, HarmlessRelease, drifts-none, drifts-then, select-drifts, tell-drifts, take-drifts, module-drifts, release-drifts, release-memory-stays}
use Rattle.two_ports.proofs.Frame.{seen-twice, own_record}
use Rattle.two_ports.proofs.Ranges.{run-ranged, ranged-alike}
use Rattle.two_ports.proofs.Refusals.{word-at-port}
use Rattle.two_pins.specs.PortPins.{port_pins_of, pins_from, view_pins, behind_shifters, left_at, module_port_pins, selected_port_pins, clocked_port, released_port_pins, memory_after_port_pins}
use Rattle.two_pins.specs.Run as run
use Rattle.two_pins.specs.Run.{RunPortPins}
use Rattle.two_pins.specs.declared.PortPins.{PortPins}
use Rattle.two_pins.specs.Answers.{PortPinsAfter}
use Rattle.two_pins.proofs.Clock.{pins-ports, pins-twice, clock-has, clock-sees, clock-sends, clock-number, clock-far}
use Rattle.two_pins.proofs.Run.{Shifters, shifters-from, run-port-pins}
use Rattle.beside.specs.Beside.{excluded, any_in, Holds, happens}
use Rattle.beside.specs.Layers.{PinCall, pin_select, pin_clock, pin_release, pin_set_module, does_pin, accepts_pin, ports_at_pins}
use Rattle.beside.proofs.Barred.{happens_but}
use Rattle.beside.proofs.AtPins.{step_pin, InnerPin, is_clock, LastPin, is_release, pin_machine, pin-first-memory, pin-inner-timed, pin-inner-memory, pin-last-timed, pin-message, pin-whole}
use Rattle.beside.proofs.Timed.{timed}
use Rattle.beside.proofs.Walk.{Steps, Passed, Rested, Ends, Sees}
use Rattle.beside.proofs.WordsBeside.{OpenPort, ShutPort, port-ranged, shut-selects, shut-quiet, shut-opened, open-told, open-took, open-word-quiet, open-release-quiet, open-releases, open-memory, open-released, harmless-accepted, drifts-like, drifts-timed, drifts-open, drifts-shut}

-- ---- a port with a live message open, and one with none

record OpenPins (p : ℕ) (memory : List ℕ) (q : PortPins) : Type 0 where
  run : RunPortPins q
  port : OpenPort p memory q.ports

record ShutPins (p : ℕ) (memory : List ℕ) (q : PortPins) : Type 0 where
  run : RunPortPins q
  port : ShutPort p memory q.ports

-- what the port sees
abbrev seen : ℕ → PortPins → Pins
seen p q = view_pins (pins_from p q)

seen-card : (p : ℕ) (q : PortPins) → (seen p q).card ≡ view_from p q.ports
seen-card p q = ap view (pins-ports p q)

-- ---- the shifters are in range

in-range : (s : Shifter) → s.count ≤ 15 → left_over s ≡ record { refusal = refusal.none; bits = s.count }
unfolding left_over
in-range s h = rw (le-ltb 15 s.count h)

behind-quiet : (q : PortPins) → Shifters q → (number : ℕ) → behind_shifters q number ≡ number
unfolding behind_shifters
behind-quiet q h number = rw (in-range q.near h.near, in-range q.far h.far)

module _ (p : ℕ) (q : PortPins) (r : RunPortPins q) where
  shifters : Shifters q
  shifters = (run-port-pins r).shifters

  own-shifter : (pins_from p q).near.count ≤ 15
  own-shifter = (shifters-from p q shifters).near

-- ---- the port's own calls

module _ (p : ℕ) (memory : List ℕ) (q : PortPins) where
  module _ (z : ShutPins p memory q) where
    abbrev a : Ports
    a = (selected_ports q.ports p).ports

    -- its shifter is cleared
    abbrev selected_then : PortPins
    selected_then = pins_from p (port_pins_of (seen_from p a) cleared (pins_from p q).far)

    select-is : selected_port_pins q p ≡ record { refusal = refusal.none; pins = selected_then }
    unfolding selected_port_pins
    select-is = rw (behind-quiet q (shifters p q z.run) (selected_ports q.ports p).refusal, shut-quiet p memory q.ports z.port)

    select-sees : seen p selected_then ≡ pins_of (view_from p a) cleared
    select-sees = ap view_pins (pins-twice p (port_pins_of (seen_from p a) cleared (pins_from p q).far))

    -- as the pins of a card with one port
    own-select : selected_pins (seen p q) ≡ record { refusal = refusal.none; pins = pins_of (view_from p a) cleared }
    unfolding selected_pins behind_shifter shifter_refusal
    own-select =
        let is : selected (seen p q).card ≡ record { refusal = refusal.none; card = view_from p a }
        = ap selected (seen-card p q) ∙ sym (shut-selects p memory q.ports z.port) ∙ ap (λ (n : ℕ). record { refusal = n; card = view_from p a }) (shut-quiet p memory q.ports z.port) in
        rw (ap (λ (x : LeftOver). x.refusal) (in-range (pins_from p q).near (own-shifter p q z.run)), is)

    select-ports : selected_then.ports ≡ a
    select-ports = pins-ports p _ ∙ seen-twice p a

    selects : Steps pin_machine (seen p) (OpenPins p memory) memory (does_pin p q memory pin_select) (step_pin (seen p q) memory pin_select)
    unfolding does_pin step_pin
    selects =
        record {
          later = selected_then;
          is =
              ap (λ (x : PortPinsAfter). record { state = x.pins; memory = memory; sent = []; refusal = x.refusal }) select-is
              ∙ ap (λ (y : PinsAfter). record { state = selected_then; memory = memory; sent = []; refusal = y.refusal }) (sym own-select);
          goes = select-sees ∙ sym (ap (λ (y : PinsAfter). y.pins) own-select);
          opened = record {
            run = subst RunPortPins (ap (λ (x : PortPinsAfter). x.pins) select-is) (run.select z.run p);
            port = subst (OpenPort p memory) (sym select-ports) (shut-opened p memory q.ports z.port);
          };
        }

  module _ (z : OpenPins p memory q) where
    word-quiet : behind_shifters q (ports_word_refusal q.ports p (length memory)) ≡ refusal.none
    word-quiet =
        behind-quiet q (shifters p q z.run) _
        ∙ word-at-port p z.port.names_port q.ports (ranged-alike p q.ports (run-ranged z.port.run)) (length memory)
        ∙ open-word-quiet p memory q.ports z.port

    takes : (bit : Bool) → Steps pin_machine (seen p) (OpenPins p memory) memory (does_pin p q memory (pin_clock bit)) (step_pin (seen p q) memory (pin_clock bit))
    unfolding does_pin step_pin
    takes bit =
        record {
          later = (clocked_port q p memory bit).pins;
          is =
              ap₂ (λ (b : Bool) (n : ℕ). record { state = (clocked_port q p memory bit).pins; memory = memory; sent = b ∷ []; refusal = n })
              (clock-sends q p memory bit z.port.alive word-quiet) (clock-number q p memory bit z.port.alive word-quiet);
          goes = clock-sees q p memory bit z.port.alive word-quiet;
          opened = record {
            run = run.clock z.run p memory bit;
            port = clock-has q p memory bit (OpenPort p memory) z.port (open-told p memory) (λ d w o. open-took p memory d o w);
          };
        }

    abbrev left : ℕ
    left = left_at q p

    left-is : left_over (pins_from p q).near ≡ record { refusal = refusal.none; bits = (pins_from p q).near.count }
    left-is = in-range (pins_from p q).near (own-shifter p q z.run)

    few : left ≤ 15
    few = subst (λ (x : LeftOver). x.bits ≤ 15) (sym left-is) (own-shifter p q z.run)

    abbrev b : Ports
    b = (released_ports q.ports p (length memory) left).ports

    -- as the card with one port is released
    released-is : released (seen p q).card (length memory) left ≡ record { refusal = refusal.none; card = view_from p b }
    released-is =
        ap (λ (c : Card). released c (length memory) left) (seen-card p q)
        ∙ sym (open-releases p memory q.ports z.port left)
        ∙ ap (λ (n : ℕ). record { refusal = n; card = view_from p b }) released-quiet
      where
        released-quiet : (released_ports q.ports p (length memory) left).refusal ≡ refusal.none
        released-quiet =
            ap (λ (x : CardAfter). x.refusal) (open-releases p memory q.ports z.port left)
            ∙ released-number (view_from p q.ports) (length memory) left
            ∙ open-release-quiet p memory q.ports z.port left few

    ports-quiet : (released_ports q.ports p (length memory) left).refusal ≡ refusal.none
    ports-quiet =
        ap (λ (x : CardAfter). x.refusal) (open-releases p memory q.ports z.port left ∙ ap (λ (c : Card). released c (length memory) left) (sym (seen-card p q)) ∙ released-is)

    release-is : released_port_pins q p (length memory) ≡ record { refusal = refusal.none; pins = port_pins_of b q.near q.far }
    unfolding released_port_pins
    release-is = rw (behind-quiet q (shifters p q z.run) (released_ports q.ports p (length memory) left).refusal, ports-quiet)

    own-release : released_pins (seen p q) (length memory) ≡ record { refusal = refusal.none; pins = pins_of (view_from p b) (pins_from p q).near }
    unfolding released_pins shifter_refusal
    own-release = rw (ap (λ (x : LeftOver). x.refusal) left-is, released-is)

    memory-then : memory_after_port_pins q p memory ≡ memory_after_ports q.ports p memory left
    unfolding memory_after_port_pins
    memory-then = rw (behind-quiet q (shifters p q z.run) refusal.none)

    own-memory : memory_after_pins (seen p q) memory ≡ memory_after (view_from p q.ports) memory left
    unfolding memory_after_pins shifter_refusal
    own-memory = rw (ap (λ (x : LeftOver). x.refusal) left-is) (ap (λ (c : Card). memory_after c memory left) (seen-card p q))

    releases : Ends pin_machine (seen p) (λ later. λ lent. ShutPins p lent later) (does_pin p q memory pin_release) (step_pin (seen p q) memory pin_release)
    unfolding does_pin step_pin
    releases =
        record {
          memory_is = memory-then ∙ open-memory p memory q.ports z.port left ∙ sym own-memory;
          sent_is = refl;
          refusal_is = ap (λ (x : PortPinsAfter). x.refusal) release-is ∙ sym (ap (λ (x : PinsAfter). x.refusal) own-release);
          after = like-same (seen-card p _ ∙ ap (λ (x : PortPinsAfter). view_from p x.pins.ports) release-is ∙ sym (ap (λ (x : PinsAfter). x.pins.card) own-release));
          shut = record {
            run = run.release z.run p (length memory);
            port =
                subst (λ (m : List ℕ). ShutPort p m (released_port_pins q p (length memory)).pins.ports) (sym memory-then)
                (subst (λ (x : PortPinsAfter). ShutPort p (memory_after_ports q.ports p memory left) x.pins.ports) (sym release-is) (open-released p memory q.ports z.port left few));
          };
        }

-- ---- the others' calls

pins-across : (p : ℕ) → is_port p ≡ true → (q : PortPins) → (pins_from (1 - p) q).far ≡ (pins_from p q).near
unfolding pins_from is_port
pins-across zero h q = refl
pins-across (suc zero) h q = refl
pins-across (suc (suc p)) h q = absurd (omega (arith, leb-true (suc (suc p)) 1 h))

-- the card drifts, and the port's own shifter stays
pub record PinsDrift (p : ℕ) (q later : PortPins) : Type 0 where
  pub ports : Drifts p q.ports later.ports
  pub shifter : (pins_from p later).near ≡ (pins_from p q).near

record Others (p : ℕ) (memory : List ℕ) (q : PortPins) (h : Holds PortPins) : Type 0 where
  later : PortPins
  is : h ≡ record { state = later; memory = memory }
  drifts : PinsDrift p q later
  run : RunPortPins later

module _ (p : ℕ) (port : is_port p ≡ true) (q : PortPins) where
  drift-none : PinsDrift p q q
  drift-none = record { ports = drifts-none p q.ports; shifter = refl }

  -- a call that leaves both shifters
  drift-ports : (d : Ports) → Drifts p q.ports d → PinsDrift p q (port_pins_of d q.near q.far)
  unfolding pins_from
  drift-ports d g = record { ports = g; shifter = go (eqb p 1) }
    where
      go : (b : Bool) → (cond b (port_pins_of (seen_from p d) q.far q.near) (port_pins_of d q.near q.far)).near ≡ (cond b (port_pins_of (seen_from p q.ports) q.far q.near) q).near
      go true = refl
      go false = refl

  select-drift : PinsDrift p q (selected_port_pins q (1 - p)).pins
  unfolding selected_port_pins
  select-drift =
      by-number (λ (a : PortPinsAfter). PinsDrift p q a.pins) (behind_shifters q (selected_ports q.ports (1 - p)).refusal) (λ r. drift-none)
      (λ n.
      let inside : PortPins = port_pins_of (seen_from (1 - p) (selected_ports q.ports (1 - p)).ports) cleared (pins_from (1 - p) q).far in
      record {
        ports = subst (Drifts p q.ports) (sym (pins-ports (1 - p) inside ∙ seen-twice (1 - p) (selected_ports q.ports (1 - p)).ports)) (select-drifts p port q.ports);
        shifter = sym (pins-across p port (pins_from (1 - p) inside)) ∙ ap (λ (y : PortPins). y.far) (pins-twice (1 - p) inside) ∙ pins-across p port q;
      })

  clock-drift : (memory : List ℕ) (bit : Bool) → PinsDrift p q (clocked_port q (1 - p) memory bit).pins
  clock-drift memory bit =
      record {
        ports =
            clock-has q (1 - p) memory bit (Drifts p q.ports) (drifts-none p q.ports) (λ d g. drifts-then p g (tell-drifts p port d memory))
            (λ d w g. drifts-then p g (take-drifts p port d memory w));
        shifter = sym (pins-across p port (clocked_port q (1 - p) memory bit).pins) ∙ clock-far q (1 - p) memory bit ∙ pins-across p port q;
      }

  pub module-drift : (stf : Bool) (state : ℕ) → PinsDrift p q (module_port_pins q stf state).pins
  unfolding module_port_pins
  module-drift stf state =
      by-number (λ (a : PortPinsAfter). PinsDrift p q a.pins) (behind_shifters q (module_ports q.ports stf state).refusal) (λ r. drift-none)
      (λ n. drift-ports (module_ports q.ports stf state).ports (module-drifts p q.ports stf state))

module _ (p : ℕ) (port : is_port p ≡ true) (memory : List ℕ) (q : PortPins) (r : RunPortPins q) (on : (own_record p q.ports).active ≡ true) where
  -- a release that is not left out
  module _ (h : any_in (accepts_pin (1 - p) q memory pin_release) excluded ≡ false) where
    harmless : HarmlessRelease (1 - p) q.ports (length memory) (left_at q (1 - p))
    unfolding accepts_pin
    harmless = harmless-accepted (1 - p) q.ports (length memory) (left_at q (1 - p)) (rw (behind-quiet q (shifters p q r) refusal.none) at h)

    release-drift : PinsDrift p q (released_port_pins q (1 - p) (length memory)).pins
    unfolding released_port_pins
    release-drift =
        let left : ℕ = left_at q (1 - p) in
        by-number (λ (a : PortPinsAfter). PinsDrift p q a.pins) (behind_shifters q (released_ports q.ports (1 - p) (length memory) left).refusal) (λ r. drift-none p port q)
        (λ n. drift-ports p port q (released_ports q.ports (1 - p) (length memory) left).ports (release-drifts p port q.ports (length memory) left on harmless))

    memory-stays : memory_after_port_pins q (1 - p) memory ≡ memory
    unfolding memory_after_port_pins
    memory-stays =
        by-test (λ (m : List ℕ). m ≡ memory) (eqb (behind_shifters q refusal.none) refusal.none)
        (λ t. release-memory-stays (1 - p) q.ports memory (left_at q (1 - p)) harmless) (λ f. refl)

  done : (call : PinCall) → any_in (accepts_pin (1 - p) q memory call) excluded ≡ false
      → Others p memory q (record { state = (does_pin (1 - p) q memory call).state; memory = (does_pin (1 - p) q memory call).memory })
  unfolding does_pin
  done pin_select h = record { later = _; is = refl; drifts = select-drift p port q; run = run.select r (1 - p) }
  done (pin_clock bit) h = record { later = _; is = refl; drifts = clock-drift p port q memory bit; run = run.clock r (1 - p) memory bit }
  done pin_release h = record {
    later = (released_port_pins q (1 - p) (length memory)).pins;
    is = ap (λ (m : List ℕ). record { state = (released_port_pins q (1 - p) (length memory)).pins; memory = m }) (memory-stays h);
    drifts = release-drift h;
    run = run.release r (1 - p) (length memory);
  }
  done (pin_set_module stf state) h = record { later = _; is = refl; drifts = module-drift p port q stf state; run = run.set_module r stf state }

  others : (call : PinCall) → Others p memory q (happens_but ports_at_pins excluded p call (record { state = q; memory = memory }))
  unfolding happens_but happens
  others call =
      by-test (Others p memory q) (any_in (accepts_pin (1 - p) q memory call) excluded)
      (λ e. record { later = q; is = refl; drifts = drift-none p port q; run = r }) (λ e. done call e)

-- ---- all of it

module _ (p : ℕ) where
  other-open : (call : PinCall) (memory : List ℕ) (q : PortPins) → OpenPins p memory q
      → Passed pin_machine (seen p) (OpenPins p memory) q memory (happens_but ports_at_pins excluded p call (record { state = q; memory = memory }))
  other-open call memory q o =
      let l = is-live (own_record p q.ports) o.port.alive in
      let x = others p o.port.names_port memory q o.run l.active call in
      let later = x.later in
      record {
        later = later;
        is = x.is;
        time = (seen_from p later.ports).time;
        goes =
            ap₂ pins_of (seen-card p later ∙ drifts-timed p q.ports later.ports x.drifts.ports l.selected) x.drifts.shifter
            ∙ ap (λ (c : Card). pins_of (timed (seen_from p later.ports).time c) (pins_from p q).near) (sym (seen-card p q));
        opened = record { run = x.run; port = drifts-open x.drifts.ports (run-port-pins x.run).run o.port };
      }

  other-shut : (call : PinCall) (memory : List ℕ) (q : PortPins) → ShutPins p memory q
      → Rested pin_machine (seen p) (ShutPins p memory) q memory (happens_but ports_at_pins excluded p call (record { state = q; memory = memory }))
  other-shut call memory q o =
      let x = others p o.port.names_port memory q o.run o.port.active call in
      record {
        later = x.later;
        is = x.is;
        like = subst₂ (Like false) (sym (seen-card p q)) (sym (seen-card p x.later)) (drifts-like p q.ports x.later.ports x.drifts.ports);
        shut = record { run = x.run; port = drifts-shut x.drifts.ports (run-port-pins x.run).run o.port };
      }

  takes-inner : {call : PinCall} → InnerPin call → (memory : List ℕ) (q : PortPins) → OpenPins p memory q
      → Steps pin_machine (seen p) (OpenPins p memory) memory (does_pin p q memory call) (step_pin (seen p q) memory call)
  takes-inner (is_clock bit) memory q o = takes p memory q o bit

  releases-last : {call : PinCall} → LastPin call → (memory : List ℕ) (q : PortPins) → OpenPins p memory q
      → Ends pin_machine (seen p) (λ later. λ lent. ShutPins p lent later) (does_pin p q memory call) (step_pin (seen p q) memory call)
  releases-last is_release memory q o = releases p memory q o

  shut-here : (q : PortPins) (memory : List ℕ) → RunPortPins q → is_port p ≡ true → (own_record p q.ports).active ≡ true → Idle (view_from p q.ports) memory → ShutPins p memory q
  unfolding view emptied
  shut-here q memory r port active idle =
      record {
        run = r;
        port = record { run = (run-port-pins r).run; names_port = port; active = active; closed = ap (λ (m : Message). m.opened) idle.closed; lent = idle.lent };
      }

  pub pins-see : Sees ports_at_pins p pin_machine
  pins-see = record {
    seen = seen p;
    Open = OpenPins p;
    Shut = ShutPins p;
    seen_card = seen-card p;
    shut_ranged = λ {memory} {s} z. port-ranged p memory s.ports z.port.run;
    shut_runs = λ z coming accepted. record { run = z.run; names_port = z.port.names_port; active = z.port.active };
    runs_shut = λ {b} r memory idle. shut-here b.state memory r.run r.names_port r.active idle;
    is_message = pin-message;
    selects = λ memory q z. selects p memory q z;
    select_memory = pin-first-memory;
    takes = takes-inner;
    releases = releases-last;
    other_open = other-open;
    other_shut = other-shut;
    same_time = λ c. refl;
    last_time = λ time time' c. refl;
    inner_timed = pin-inner-timed;
    inner_memory = pin-inner-memory;
    last_timed = pin-last-timed;
    whole = λ m memory idle q z e line. pin-whole m memory idle (subst (λ (x : Pins). x.shifter.count ≤ 15) e (own-shifter p q z.run)) line;
  }
