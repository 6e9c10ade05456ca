-- A bit clocked through a port: it leaves the card as some of the port's tellings and takings do; and what the port sees of it is a bit clocked
-- through the pins of a card with one port.
-- Assumes nothing.
use Prim.Native.Nat.{ℕ, ◌≤◌}
use mathlib.Core.Bool.{Bool, true, false, cond}
use mathlib.Core.List.{List}
use mathlib.Core.Path.{◌≡◌, refl, sym, ap, ◌∙◌, subst}
use lib.Dec.{eqb}
use lib.ListN.{length}
use Rattle.rules.specs.Refusals as refusal
use Rattle.rules.proofs.Cases.{by-test, by-number}
use Rattle.judge.proofs.Laws.{never}
use Rattle.card.specs.Card.{word_refusal}
use Rattle.card.specs.Exchange.{told, took, with_told}
use Rattle.card.specs.declared.Card.{Card}
use Rattle.card.specs.Answers.{Told}
use Rattle.card.proofs.Cases.{told-quiet, told-refusal}
use Rattle.shifter.specs.Shifter.{step, left_over}
use Rattle.shifter.specs.Answers.{Sent}
use Rattle.shifter.specs.declared.Shifter.{Shifter}
use Rattle.pins.specs.Pins.{pins_of, shifter_refusal, behind_shifter, told_first, took_last, clocked}
use Rattle.pins.specs.Answers.{Clocked}
use Rattle.pins.specs.declared.Pins.{Pins}
use Rattle.pins.proofs.Run.{clocked-in-range}
use Rattle.two_ports.specs.Ports.{tell_near, take_near, ports_word_refusal, told_ports, took_ports}
use Rattle.two_ports.specs.State.{live, turned, seen_from, with_near_port, view, view_from}
use Rattle.two_ports.specs.declared.Ports.{Ports}
use Rattle.two_ports.proofs.Alone.{view-tells, view-takes, tell-alone}
use Rattle.two_ports.proofs.Cases.{Unrefused, unrefused, told-ports-case, took-ports-case, tell-near-case, take-near-case, told-live, took-live}
use Rattle.two_ports.proofs.Frame.{seen-twice, own_record}
use Rattle.two_ports.proofs.Ranges.{PortsRange, ports-in-range, ranged-alike, told-ports-ranged}
use Rattle.two_ports.proofs.Refusals.{word-at-port}
use Rattle.two_pins.specs.PortPins.{port_pins_of, pins_from, view_pins, behind_shifters, clock_near, bit_near, clocked_port}
use Rattle.two_pins.specs.Answers.{PortClocked}
use Rattle.two_pins.specs.declared.PortPins.{PortPins}

-- ---- seen from a port

pub pins-ports : (p : ℕ) (q : PortPins) → (pins_from p q).ports ≡ seen_from p q.ports
unfolding pins_from seen_from
pins-ports p q = go (eqb p 1)
  where
    go : (b : Bool) → (cond b (port_pins_of (cond b (turned q.ports) q.ports) q.far q.near) q).ports ≡ cond b (turned q.ports) q.ports
    go true = refl
    go false = refl

pub pins-twice : (p : ℕ) (q : PortPins) → pins_from p (pins_from p q) ≡ q
unfolding pins_from seen_from
pins-twice p q = go (eqb p 1)
  where
    from : Bool → PortPins → PortPins
    from b x = cond b (port_pins_of (cond b (turned x.ports) x.ports) x.far x.near) x

    go : (b : Bool) → from b (from b q) ≡ q
    go true = refl
    go false = refl

-- ---- the near port's bit, as a telling and a taking

module _ (e : Ports) (s : Shifter) (memory : List ℕ) (bit : Bool) (l : live e.near ≡ true) where
  abbrev v : Pins
  v = pins_of (view e) s

  abbrev first : Told
  first = told_first v memory

  abbrev sent : Sent
  sent = (step s first.word bit).answer

  -- told with the first bit
  e₁ : Ports
  e₁ = cond (eqb s.count 0) (tell_near e memory) e

  -- taken with the sixteenth
  e₂ : Ports
  e₂ = cond sent.complete (take_near e₁ memory sent.word) e₁

  -- nothing but the near port is changed, and that only by its port part
  record Near (x : Ports) : Type 0 where
    alive : live x.near ≡ true
    near_only : x ≡ with_near_port e x.near.port

  tell-near : Near e₁
  unfolding e₁
  tell-near =
      by-test Near (eqb s.count 0)
      (λ t. tell-near-case Near e memory (λ _. record { alive = told-live e memory ∙ l; near_only = refl }) (λ f. never (sym l ∙ f)))
      (λ f. record { alive = l; near_only = refl })

  view-first : view e₁ ≡ first.card
  unfolding e₁ told_first
  view-first = go (eqb s.count 0)
    where
      go : (b : Bool) → view (cond b (tell_near e memory) e) ≡ (cond b (told (view e) memory) (record { refusal = refusal.none; card = view e; word = 0 })).card
      go true = view-tells e memory l
      go false = refl

  take-near : Near e₂
  unfolding e₂
  take-near =
      by-test Near sent.complete
      (λ t. take-near-case Near e₁ memory sent.word
      (λ _. record { alive = took-live e₁ memory sent.word ∙ tell-near.alive; near_only = ap (λ (x : Ports). with_near_port x (took (view e₁) memory sent.word).card.port) tell-near.near_only })
      (λ f. never (sym tell-near.alive ∙ f)))
      (λ f. tell-near)

  view-last : view e₂ ≡ took_last first.card memory sent
  unfolding e₂ took_last
  view-last = go sent.complete
    where
      go : (b : Bool) → view (cond b (take_near e₁ memory sent.word) e₁) ≡ cond b (took first.card memory sent.word).card first.card
      go true = view-takes e₁ memory sent.word tell-near.alive ∙ ap (λ (c : Card). (took c memory sent.word).card) view-first
      go false = view-first

  -- so the bit that the port's own pins take leaves the card as they do
  bit-near : with_near_port e (took_last first.card memory sent).port ≡ e₂
  unfolding view
  bit-near = ap (λ (c : Card). with_near_port e c.port) (sym view-last) ∙ sym take-near.near_only

-- ---- a call that is not refused

pub record Quiet (q : PortPins) (number : ℕ) : Type 0 where
  pub near : (left_over q.near).refusal ≡ refusal.none
  pub far : (left_over q.far).refusal ≡ refusal.none
  pub card : number ≡ refusal.none

pub quiet : (q : PortPins) (number : ℕ) → behind_shifters q number ≡ refusal.none → Quiet q number
unfolding behind_shifters
quiet q number =
    by-number (λ n. n ≡ refusal.none → Quiet q number) (left_over q.near).refusal (λ r h. absurd (r h))
    (λ near. by-number (λ n. n ≡ refusal.none → Quiet q number) (left_over q.far).refusal (λ r h. absurd (r h)) (λ far h. record { near = near; far = far; card = h }))

-- the port's own shifter
pub quiet-own : (p : ℕ) (q : PortPins) {number : ℕ} → Quiet q number → (left_over (pins_from p q).near).refusal ≡ refusal.none
unfolding pins_from
quiet-own p q z = by-test (λ (x : PortPins). (left_over x.near).refusal ≡ refusal.none) (eqb p 1) (λ t. z.far) (λ f. z.near)

module _ (q : PortPins) (p : ℕ) (memory : List ℕ) (bit : Bool) where
  abbrev x : PortPins
  x = pins_from p q

  abbrev number : ℕ
  number = behind_shifters q (ports_word_refusal q.ports p (length memory))

  -- the two cases of a bit
  pub clocked-port-case : (P : PortClocked → Type 0)
      → ((number ≡ refusal.none → ⊥) → P (record { refusal = number; pins = q; bit = false }))
      → (number ≡ refusal.none → P (record { refusal = refusal.none; pins = pins_from p (clock_near x memory bit); bit = bit_near x memory bit }))
      → P (clocked_port q p memory bit)
  unfolding clocked_port
  clocked-port-case P = by-number P number

  pub clock-near-case : (P : PortPins → Type 0)
      → (live x.ports.near ≡ true → P (port_pins_of (with_near_port x.ports (clocked (view_pins x) memory bit).pins.card.port) (clocked (view_pins x) memory bit).pins.shifter x.far))
      → (live x.ports.near ≡ false → P x)
      → P (clock_near x memory bit)
  unfolding clock_near
  clock-near-case P = by-test P (live x.ports.near)

  -- what the port's own pins say of a bit that is not refused
  module _ (n : number ≡ refusal.none) where
    is-quiet : Unrefused q.ports p (word_refusal (view_from p q.ports) (length memory))
    unfolding ports_word_refusal
    is-quiet = unrefused q.ports p (eqb (length memory) q.ports.size) (word_refusal (view_from p q.ports) (length memory)) (quiet q _ n).card

    own-number : behind_shifter (view_pins x) (word_refusal (view x.ports) (length memory)) ≡ refusal.none
    unfolding behind_shifter shifter_refusal
    own-number =
        rw (quiet-own p q (quiet q _ n)) (ap (λ (e : Ports). word_refusal (view e) (length memory)) (pins-ports p q) ∙ is-quiet.quiet)

    own-clocked : clocked (view_pins x) memory bit
        ≡ (let t = told_first (view_pins x) memory in
        let done = step x.near t.word bit in
        record { refusal = refusal.none; pins = pins_of (took_last t.card memory done.answer) done.shifter; bit = done.answer.bit })
    unfolding clocked
    own-clocked = rw own-number

    -- a live message: the card as the telling and the taking leave it
    module _ (l : live x.ports.near ≡ true) where
      abbrev told_then : Ports
      told_then = e₁ x.ports x.near memory bit l

      abbrev taken_then : Ports
      taken_then = e₂ x.ports x.near memory bit l

      live-near : with_near_port x.ports (clocked (view_pins x) memory bit).pins.card.port ≡ taken_then
      live-near = ap (λ (a : Clocked). with_near_port x.ports a.pins.card.port) own-clocked ∙ bit-near x.ports x.near memory bit l

      live-view : view taken_then ≡ (clocked (view_pins x) memory bit).pins.card
      live-view = view-last x.ports x.near memory bit l ∙ sym (ap (λ (a : Clocked). a.pins.card) own-clocked)

      -- the same by the card's own calls on the port
      back : seen_from p x.ports ≡ q.ports
      back = ap (seen_from p) (pins-ports p q) ∙ seen-twice p q.ports

      alive : live (own_record p q.ports) ≡ true
      alive = ap (λ (d : Ports). live d.near) (sym (pins-ports p q)) ∙ l

      told-is : (told_ports q.ports p memory).ports ≡ seen_from p (tell_near x.ports memory)
      told-is =
          told-ports-case (λ t. t.ports ≡ seen_from p (tell_near x.ports memory)) q.ports p memory
          (λ r. absurd (r (quiet q _ n).card)) (λ _. ap (λ (d : Ports). seen_from p (tell_near d memory)) (sym (pins-ports p q)))

      -- after the telling a word can be taken
      still-quiet : ports_word_refusal (told_ports q.ports p memory).ports p (length memory) ≡ refusal.none
      still-quiet =
          let i : PortsRange q.ports = ports-in-range q.ports is-quiet.ranged in
          let after : PortsRange (told_ports q.ports p memory).ports = told-ports-ranged q.ports p i memory in
          let c : Card = view_from p q.ports in
          let sees : view_from p (told_ports q.ports p memory).ports ≡ with_told c memory
          = ap (λ (t : Told). t.card) (tell-alone p is-quiet.port q.ports (ranged-alike p q.ports i) memory (λ _. alive) ∙ told-quiet c memory is-quiet.quiet) in
          word-at-port p is-quiet.port _ (ranged-alike p _ after) (length memory)
          ∙ ap (λ (y : Card). word_refusal y (length memory)) sees
          ∙ told-refusal c memory (length memory)
          ∙ is-quiet.quiet

      module _ (P : Ports → Type 0) (base : P q.ports) (tells : (d : Ports) → P d → P (told_ports d p memory).ports) (takes : (d : Ports) (w : ℕ) → P d → P (took_ports d p memory w).ports) where
        -- the card before the taking, with what is needed there
        abbrev Ready : Ports → Type 0
        Ready d = P (seen_from p d) × (ports_word_refusal (seen_from p d) p (length memory) ≡ refusal.none)

        told-ready : Ready told_then
        unfolding e₁
        told-ready =
            by-test Ready (eqb x.near.count 0)
            (λ t. subst (λ (d : Ports). P d × (ports_word_refusal d p (length memory) ≡ refusal.none)) told-is (tells q.ports base, still-quiet))
            (λ f. subst (λ (d : Ports). P d × (ports_word_refusal d p (length memory) ≡ refusal.none)) (sym back) (base, (quiet q _ n).card))

        taken-has : P (seen_from p taken_then)
        unfolding e₂
        taken-has =
            by-test (λ (d : Ports). P (seen_from p d)) (step x.near (told_first (view_pins x) memory).word bit).answer.complete
            (λ t. subst P (taken-is (step x.near (told_first (view_pins x) memory).word bit).answer.word) (takes (seen_from p told_then) _ told-ready.0))
            (λ f. told-ready.0)
          where
            taken-is : (w : ℕ) → (took_ports (seen_from p told_then) p memory w).ports ≡ seen_from p (take_near told_then memory w)
            taken-is w =
                took-ports-case (λ a. a.ports ≡ seen_from p (take_near told_then memory w)) (seen_from p told_then) p memory w
                (λ r. absurd (r told-ready.1)) (λ _. ap (λ (d : Ports). seen_from p (take_near d memory w)) (seen-twice p told_then))

  -- a property of the card that the port's tellings and takings keep, a bit keeps too
  pub clock-has : (P : Ports → Type 0) → P q.ports → ((d : Ports) → P d → P (told_ports d p memory).ports)
      → ((d : Ports) (w : ℕ) → P d → P (took_ports d p memory w).ports) → P (clocked_port q p memory bit).pins.ports
  clock-has P base tells takes =
      clocked-port-case (λ a. P a.pins.ports) (λ r. base)
      (λ n. clock-near-case (λ y. P (pins_from p y).ports)
      (λ l. subst P (sym (pins-ports p _ ∙ ap (seen_from p) (live-near n l))) (taken-has n l P base tells takes))
      (λ f. subst P (sym (ap (λ (y : PortPins). y.ports) (pins-twice p q))) base))

  -- what the port sees of a live message's bit
  module _ (a : live (own_record p q.ports) ≡ true) (n : number ≡ refusal.none) where
    near-live : live x.ports.near ≡ true
    near-live = ap (λ (d : Ports). live d.near) (pins-ports p q) ∙ a

    pub clock-sees : view_pins (pins_from p (clocked_port q p memory bit).pins) ≡ (clocked (view_pins x) memory bit).pins
    clock-sees =
        clocked-port-case (λ c. view_pins (pins_from p c.pins) ≡ (clocked (view_pins x) memory bit).pins) (λ r. absurd (r n))
        (λ _. ap view_pins (pins-twice p (clock_near x memory bit))
        ∙ clock-near-case (λ y. view_pins y ≡ (clocked (view_pins x) memory bit).pins)
        (λ l. ap (λ (d : Ports). pins_of (view d) (clocked (view_pins x) memory bit).pins.shifter) (live-near n l)
        ∙ ap (λ (c : Card). pins_of c (clocked (view_pins x) memory bit).pins.shifter) (live-view n l))
        (λ f. never (sym near-live ∙ f)))

    pub clock-sends : (clocked_port q p memory bit).bit ≡ (clocked (view_pins x) memory bit).bit
    unfolding bit_near
    clock-sends = clocked-port-case (λ c. c.bit ≡ (clocked (view_pins x) memory bit).bit) (λ r. absurd (r n)) (λ _. rw near-live)

    pub clock-number : (clocked_port q p memory bit).refusal ≡ (clocked (view_pins x) memory bit).refusal
    clock-number =
        clocked-port-case (λ c. c.refusal ≡ refusal.none) (λ r. absurd (r n)) (λ _. refl) ∙ sym (ap (λ (c : Clocked). c.refusal) (own-clocked n))

  -- the other port's shifter stays, and so does the own one but for a live message
  pub clock-far : (pins_from p (clocked_port q p memory bit).pins).far ≡ x.far
  clock-far =
      clocked-port-case (λ c. (pins_from p c.pins).far ≡ x.far) (λ r. refl)
      (λ n. ap (λ (y : PortPins). y.far) (pins-twice p (clock_near x memory bit)) ∙ clock-near-case (λ y. y.far ≡ x.far) (λ l. refl) (λ f. refl))

  pub clock-ranged : x.near.count ≤ 15 → (pins_from p (clocked_port q p memory bit).pins).near.count ≤ 15
  clock-ranged h =
      clocked-port-case (λ c. (pins_from p c.pins).near.count ≤ 15) (λ r. h)
      (λ n. rw (pins-twice p (clock_near x memory bit)) (clock-near-case (λ y. y.near.count ≤ 15) (λ l. clocked-in-range (view_pins x) memory bit h) (λ f. h)))
