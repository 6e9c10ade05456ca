-- From power-up, with the other port silent, a card with two ports behind their shifters is on one port the card with one port behind its shifter:
-- whatever is called on it, every refusal, every bit sent, every memory, and what the port sees are those of that card.
-- Assumes nothing.
use Prim.Native.Nat.{ℕ}
use mathlib.Core.Bool.{Bool, true, false, cond}
use mathlib.Core.List.{List, []}
use mathlib.Core.Path.{◌≡◌, refl, sym, ap, ap₂, ◌∙◌}
use borrow.Author.Tests.{le-ltb}
use lib.Dec.{eqb, lit≤}
use lib.ListN.{length}
use Rattle.rules.specs.Refusals as refusal
use Rattle.rules.proofs.Cases.{by-test, by-number}
use Rattle.card.specs.Card.{gives_card, selected, word_refusal}
use Rattle.card.specs.declared.Card.{Card}
use Rattle.card.specs.Answers.{CardAfter}
use Rattle.shifter.specs.Shifter.{cleared, left_over}
use Rattle.shifter.specs.declared.Shifter.{Shifter}
use Rattle.pins.specs.Pins.{pins_of, gives_pins, shifter_refusal, behind_shifter, answered, powered_pins, module_pins, selected_pins, clocked, released_pins, memory_after_pins}
use Rattle.pins.specs.Answers.{Clocked}
use Rattle.pins.specs.declared.Pins.{Pins}
use Rattle.pins.specs.Answers.{PinsAfter}
use Rattle.two_ports.specs.OnePort as card
use Rattle.two_ports.specs.OnePort.{seen_after, OneCall, Given, one_answer, port_answer}
use Rattle.two_ports.specs.Ports.{powered_ports, module_ports, selected_ports, ports_word_refusal, released_ports}
use Rattle.two_ports.specs.State.{is_port, turned, seen_from, view, view_from}
use Rattle.two_ports.specs.declared.Ports.{Ports}
use Rattle.two_ports.specs.Answers.{PortsAfter}
use Rattle.two_ports.proofs.OnePort.{AloneFrom, SameCall, SameAnswer, SameAnswers, all-alike, alike, alive, same-call, tell-stays-alone, take-stays-alone, power-up-alone, powered-alone}
use Rattle.two_ports.proofs.Refusals.{module-ports-refused, released-ports-refused, word-at-port}
use Rattle.two_pins.specs.OnePortPins.{view_pins_from, seen_pins_after, seen_clocked, PinCall, set_module, select, clock, release, gives_pin, pin_answer, port_pin_answer}
use Rattle.two_pins.specs.PortPins.{port_pins_of, gives_port_pins, pins_from, view_pins, behind_shifters, left_at, powered_port_pins, module_port_pins, selected_port_pins, clocked_port, released_port_pins, memory_after_port_pins}
use Rattle.two_pins.specs.declared.PortPins.{PortPins}
use Rattle.two_pins.specs.Answers.{PortPinsAfter}
use Rattle.two_pins.proofs.Cases.{select_number, select-pins-case, memory-pins-case}
use Rattle.two_pins.proofs.Clock.{pins-ports, pins-twice, clocked-port-case, clock-sees, clock-sends, clock-number}
use Rattle.two_pins.proofs.Order.{shifters_out, in-range-number}
use Rattle.two_pins.proofs.Run.{Kept, shifters-from, module-kept, select-kept, clock-kept, release-kept}

-- another card behind the same shifters: the port sees what it sees of that card, behind its own shifter
same-shifters : (p : ℕ) (q : PortPins) (d : Ports) → view_pins_from p (port_pins_of d q.near q.far) ≡ pins_of (view_from p d) (pins_from p q).near
unfolding pins_from seen_from
same-shifters p q d = go (eqb p 1)
  where
    from : Bool → PortPins → PortPins
    from b x = cond b (port_pins_of (cond b (turned x.ports) x.ports) x.far x.near) x

    go : (b : Bool) → view_pins (from b (port_pins_of d q.near q.far)) ≡ pins_of (view (cond b (turned d) d)) (from b q).near
    go true = refl
    go false = refl

-- ---- one port alone, and both shifters in range

abbrev AlonePins : ℕ → PortPins → Type 0
AlonePins p = Kept (AloneFrom p)

module _ (p : ℕ) (port : is_port p ≡ true) (q : PortPins) (a : AlonePins p q) where
  -- the port's pins: a card with one port behind its shifter
  abbrev v : Pins
  v = pins_of (view_from p q.ports) (pins_from p q).near

  own : view_pins_from p q ≡ v
  own = ap (λ (d : Ports). pins_of (view d) (pins_from p q).near) (pins-ports p q)

  -- no shifter refuses: the number is the card's
  shifters-in : shifters_out q ≡ false
  shifters-in = rw (le-ltb 15 _ a.shifters.near, le-ltb 15 _ a.shifters.far)

  shifter-quiet : shifter_refusal v ≡ refusal.none
  unfolding shifter_refusal left_over
  shifter-quiet = rw (shifter_refusal, left_over, le-ltb 15 _ (shifters-from p q a.shifters).near)

  own-number : (number : ℕ) → behind_shifter v number ≡ number
  unfolding behind_shifter
  own-number number = rw shifter-quiet

  -- ---- module state and release: the card's answer, behind the same shifters

  answered-alone : (x : PortsAfter) → ((x.refusal ≡ refusal.none → ⊥) → x.ports ≡ q.ports)
      → seen_pins_after p (cond (eqb (behind_shifters q x.refusal) refusal.none)
      (gives_port_pins refusal.none (port_pins_of x.ports q.near q.far))
      (gives_port_pins (behind_shifters q x.refusal) q))
      ≡ answered v (seen_after p x)
  answered-alone x stays =
      rw (in-range-number q shifters-in x.refusal, shifter-quiet)
      (by-number (λ (y : PortPinsAfter). seen_pins_after p y ≡ gives_pins x.refusal (pins_of (view_from p x.ports) (pins_from p q).near))
      x.refusal
      (λ r. ap (gives_pins x.refusal) (own ∙ ap (λ (d : Ports). pins_of (view_from p d) (pins_from p q).near) (sym (stays r))))
      (λ n. ap₂ gives_pins (sym n) (same-shifters p q x.ports)))

  -- what the card's own call gives, as the port sees it
  same : (call : OneCall) → SameCall p q.ports call
  same = same-call p port q.ports a.card

  module-alone-at-pins : (stf : Bool) (state : ℕ) → seen_pins_after p (module_port_pins q stf state) ≡ module_pins v stf state
  unfolding module_port_pins module_pins port_answer one_answer
  module-alone-at-pins stf state =
      let s = same (card.set_module stf state) in
      answered-alone (module_ports q.ports stf state) (module-ports-refused q.ports stf state)
      ∙ ap₂ (λ (g : Given) (c : Card). answered v (gives_card g.refusal c)) s.given s.seen

  release-alone-at-pins : (memory : List ℕ) → seen_pins_after p (released_port_pins q p (length memory)) ≡ released_pins v (length memory)
  unfolding released_port_pins released_pins port_answer one_answer
  release-alone-at-pins memory =
      let s = same (card.release memory (left_at q p)) in
      answered-alone (released_ports q.ports p (length memory) (left_at q p)) (released-ports-refused q.ports p (length memory) (left_at q p))
      ∙ ap₂ (λ (g : Given) (c : Card). answered v (gives_card g.refusal c)) s.given s.seen

  memory-alone-at-pins : (memory : List ℕ) → memory_after_port_pins q p memory ≡ memory_after_pins v memory
  unfolding memory_after_pins port_answer one_answer
  memory-alone-at-pins memory =
      memory-pins-case (λ m. m ≡ memory_after_pins v memory) q p memory (λ r. absurd (r (in-range-number q shifters-in refusal.none)))
      (λ _. rw shifter-quiet (ap (λ (g : Given). g.memory) (same (card.release memory (left_at q p))).given))

  -- ---- select: the shifter is clear

  select-alone-at-pins : seen_pins_after p (selected_port_pins q p) ≡ selected_pins v
  unfolding selected_pins port_answer one_answer
  select-alone-at-pins =
      select-pins-case (λ x. seen_pins_after p x ≡ selected_pins v) q p
      (λ r. by-number (λ (y : PinsAfter). gives_pins (select_number q p) (view_pins_from p q) ≡ y) n (λ _. ap₂ gives_pins number own)
      (λ e. absurd (r (number ∙ e))))
      (λ e. by-number (λ (y : PinsAfter). gives_pins refusal.none (view_pins_from p (pins_from p done)) ≡ y) n (λ r. absurd (r (sym number ∙ e)))
      (λ _. ap (gives_pins refusal.none) (ap view_pins (pins-twice p done) ∙ ap (λ (c : Card). pins_of c cleared) (same card.select).seen)))
    where
      done : PortPins
      done = port_pins_of (seen_from p (selected_ports q.ports p).ports) cleared (pins_from p q).far

      n : ℕ
      n = behind_shifter v (selected (view_from p q.ports)).refusal

      number : select_number q p ≡ n
      number = unfold port_answer one_answer in
          in-range-number q shifters-in _ ∙ ap (λ (g : Given). g.refusal) (same card.select).given ∙ sym (own-number _)

  -- ---- a bit

  module _ (memory : List ℕ) (bit : Bool) where
    abbrev n : ℕ
    n = behind_shifters q (ports_word_refusal q.ports p (length memory))

    word-number : n ≡ word_refusal (view_from p q.ports) (length memory)
    word-number = in-range-number q shifters-in _ ∙ word-at-port p port q.ports (alike p port q.ports a.card) (length memory)

    clock-alone-at-pins : seen_clocked p (clocked_port q p memory bit) ≡ clocked v memory bit
    unfolding clocked
    clock-alone-at-pins = by-number {A = ℕ} (λ _. seen_clocked p (clocked_port q p memory bit) ≡ clocked v memory bit) n {a = 0} {b = 0} refused done
      where
        answers : ℕ → Pins → Bool → Clocked
        answers number pins sent = record { refusal = number; pins = pins; bit = sent }

        refused : (n ≡ refusal.none → ⊥) → seen_clocked p (clocked_port q p memory bit) ≡ clocked v memory bit
        refused r =
            clocked-port-case q p memory bit (λ c. seen_clocked p c ≡ clocked v memory bit)
            (λ _. by-number (λ (y : Clocked). answers n (view_pins_from p q) false ≡ y)
            (behind_shifter v (word_refusal (view_from p q.ports) (length memory)))
            (λ _. ap₂ (λ (m : ℕ) (c : Pins). answers m c false) (word-number ∙ sym (own-number _)) own)
            (λ e. absurd (r (word-number ∙ sym (own-number _) ∙ e))))
            (λ e. absurd (r e))

        done : n ≡ refusal.none → seen_clocked p (clocked_port q p memory bit) ≡ clocked v memory bit
        done e =
            let l = alive p port q.ports a.card (length memory) (sym word-number ∙ e) in
            ap₂ (λ (m : ℕ) (c : Pins). answers m c (clocked_port q p memory bit).bit) (clock-number q p memory bit l e)
            (clock-sees q p memory bit l e)
            ∙ ap (answers _ _) (clock-sends q p memory bit l e)
            ∙ ap (λ (c : Pins). clocked c memory bit) own

  -- ---- a call on the port: what it gives back, and what the port sees then

  same-pin-call : (call : PinCall) → SameAnswer (port_pin_answer p) pin_answer (view_pins_from p) (AlonePins p) q call
  unfolding port_pin_answer pin_answer port_answer
  same-pin-call (set_module stf state) =
      let e = module-alone-at-pins stf state ∙ ap (λ (c : Pins). module_pins c stf state) (sym own) in
      record {
        given = ap (λ (x : PinsAfter). gives_pin x.refusal false []) e;
        seen = ap (λ (x : PinsAfter). x.pins) e;
        kept = module-kept (AloneFrom p) q a stf state (same (card.set_module stf state)).kept;
      }
  same-pin-call select =
      let e = select-alone-at-pins ∙ ap selected_pins (sym own) in
      record {
        given = ap (λ (x : PinsAfter). gives_pin x.refusal false []) e;
        seen = ap (λ (x : PinsAfter). x.pins) e;
        kept = select-kept (AloneFrom p) q a p (same card.select).kept;
      }
  same-pin-call (clock memory bit) =
      let e = clock-alone-at-pins memory bit ∙ ap (λ (c : Pins). clocked c memory bit) (sym own) in
      record {
        given = ap (λ (x : Clocked). gives_pin x.refusal x.bit memory) e;
        seen = ap (λ (x : Clocked). x.pins) e;
        kept = clock-kept (AloneFrom p) q a p memory bit (λ d h. tell-stays-alone p d h memory) (λ d w h. take-stays-alone p d h memory w);
      }
  same-pin-call (release memory) =
      let e = release-alone-at-pins memory ∙ ap (λ (c : Pins). released_pins c (length memory)) (sym own) in
      record {
        given = ap₂ (λ (x : PinsAfter) (m : List ℕ). gives_pin x.refusal false m) e
            (memory-alone-at-pins memory ∙ ap (λ (c : Pins). memory_after_pins c memory) (sym own));
        seen = ap (λ (x : PinsAfter). x.pins) e;
        kept = release-kept (AloneFrom p) q a p (length memory) (same (card.release memory (left_at q p))).kept;
      }

-- ---- any calls on the port from power-up

-- power-up, refused or not
pub power-up-alone-at-pins : (p size : ℕ) → seen_pins_after p (powered_port_pins size) ≡ powered_pins size
unfolding powered_port_pins powered_pins pins_from
power-up-alone-at-pins p size =
    ap (gives_pins (powered_ports size).refusal) (same-shifters p (powered_port_pins size).pins (powered_ports size).ports)
    ∙ ap₂ (λ (x : CardAfter) (s : Shifter). gives_pins x.refusal (pins_of x.card s)) (power-up-alone p size)
    (by-test (λ (x : PortPins). x.near ≡ cleared) (eqb p 1) (λ t. refl) (λ f. refl))

-- whatever size it is powered up with, and whatever is called on the port: every refusal, every bit sent, every memory, and what the port sees
pub one-port-at-pins : (p size : ℕ) → is_port p ≡ true → (calls : List PinCall)
    → SameAnswers (port_pin_answer p) pin_answer (view_pins_from p) (powered_port_pins size).pins (powered_pins size).pins calls
unfolding powered_port_pins
one-port-at-pins p size port =
    all-alike (port_pin_answer p) pin_answer (view_pins_from p) (AlonePins p) (same-pin-call p port) (powered_port_pins size).pins (powered_pins size).pins
    (ap (λ (x : PinsAfter). x.pins) (power-up-alone-at-pins p size))
    (record { card = powered-alone p size; shifters = record { near = lit≤ tt; far = lit≤ tt } })
