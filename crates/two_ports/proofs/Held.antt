-- A message goes by the bases of its select, whatever the other port moves meanwhile: what its port sees as bases, and so judges, reads and writes
-- by, are the common ones as they stood at its select, as long as the message is live.
-- Assumes nothing.
use Prim.Native.Nat.{ℕ, zero, suc, ◌-◌}
use native.Mathlib.Omega.{arith}
use mathlib.Core.Bool.{true, false}
use mathlib.Core.Logic.{◌⊎◌, inl, inr}
use mathlib.Core.Path.{◌≡◌, refl, sym, ap, ◌∙◌, subst}
use borrow.Author.Tests.{leb-true, lt-leb}
use lib.ListN.{length}
use Rattle.rules.specs.Refusals as refusal
use Rattle.rules.specs.Rules.{activate, deactivate}
use Rattle.judge.proofs.Laws.{never}
use Rattle.card.specs.Card.{selected}
use Rattle.card.specs.Exchange.{fields}
use Rattle.card.specs.Release.{release_refusal}
use Rattle.card.specs.State.{emptied}
use Rattle.card.specs.declared.Message.{Message}
use Rattle.card.proofs.Cases.{selected-case}
use Rattle.two_ports.specs.declared.PortRecord.{PortRecord}
use Rattle.two_ports.specs.declared.Ports.{Ports}
use Rattle.two_ports.specs.OnePort.{OneCall, set_module, select, tell, take_word, release, port_answer}
use Rattle.two_ports.specs.Run.{WhileLive, start, one_call}
use Rattle.two_ports.specs.State.{is_selected, live, is_port, seen_from, view, view_from}
use Rattle.two_ports.specs.Ports.{ports_select_refusal, select_near, selected_ports, ports_word_refusal, switched, release_live, release_dead, release_near, ports_release_refusal, released_ports}
use Rattle.two_ports.proofs.Alone.{live-bases}
use Rattle.two_ports.proofs.Cases.{is-live, unrefused, released-empty, selected-ports-case, told-ports-case, took-ports-case, released-ports-case, tell-near-case, take-near-case, release-near-case}
use Rattle.two_ports.proofs.Frame.{own_record, other_record, across, seen-bases, select-seen, tell-seen, take-seen, release-seen, select-frame, tell-frame, take-frame, Switches, release-frame, module-frame}
use Rattle.two_ports.proofs.Sound.{closed-not-live}

-- ---- select

module _ (d : Ports) (p : ℕ) (active : (own_record p d).active ≡ true) (quiet : ports_select_refusal d p ≡ refusal.none) where
  -- on an active port it opens a live message
  pub select-live : live (own_record p (selected_ports d p).ports) ≡ true
  unfolding select_near live emptied
  select-live = select-seen (λ e. live e.near ≡ true) d p (λ r. absurd (r quiet)) (λ _. rw active)

  -- which sees the bases as they stand
  pub select-takes-bases : (view_from p (selected_ports d p).ports).bases ≡ d.bases
  unfolding select_near view emptied
  select-takes-bases = select-seen (λ e. (view e).bases ≡ d.bases) d p (λ r. absurd (r quiet)) (λ _. rw active (seen-bases p d))

-- ---- a call, of any port, that leaves the message live

-- a port is the port p, the other one, or none
which : (p q : ℕ) → is_port p ≡ true → (q ≡ p) ⊎ ((q ≡ 1 - p) ⊎ (is_port q ≡ false))
unfolding is_port
which zero zero h = inl refl
which zero (suc zero) h = inr (inl refl)
which (suc zero) zero h = inr (inl refl)
which (suc zero) (suc zero) h = inl refl
which (suc (suc p)) q h = absurd (omega (arith, leb-true (suc (suc p)) 1 h))
which zero (suc (suc q)) h = inr (inr (lt-leb (suc (suc q)) 1 (omega arith)))
which (suc zero) (suc (suc q)) h = inr (inr (lt-leb (suc (suc q)) 1 (omega arith)))

module _ (p : ℕ) (port : is_port p ≡ true) (d : Ports) (alive : live (own_record p d) ≡ true) where
  -- a record whose message is live has the bases of before
  abbrev Held : PortRecord → Type 0
  Held r = live r ≡ true → r.held ≡ (own_record p d).held

  is-open : is_selected (own_record p d) ≡ true
  is-open = (is-live (own_record p d) alive).selected

  -- by calls of the port itself: select is refused, and a release leaves no message
  select-open : (selected (view_from p d)).refusal ≡ refusal.none → ⊥
  unfolding view
  select-open = selected-case (λ x. x.refusal ≡ refusal.none → ⊥) (view_from p d) (λ n r q. r q) (λ r o q. never (sym is-open ∙ o))

  release-ends : (size left : ℕ) → release_refusal (view_from p d) size left ≡ refusal.none → live (release_near (seen_from p d) size left).near ≡ false
  unfolding release_live release_dead emptied
  release-ends size left q =
      release-near-case (λ e. live e.near ≡ false) (seen_from p d) size left
      (λ l. closed-not-live _ (ap (λ (m : Message). m.opened) (released-empty (view_from p d) size left q))) (λ f. never (sym alive ∙ f))

  own-call : (call : OneCall) → Held (own_record p (port_answer p d call).after)
  unfolding port_answer ports_select_refusal ports_release_refusal
  own-call (set_module stf state) = λ l. ap (λ (r : PortRecord). r.held) (module-frame d p stf state)
  own-call select = λ l.
      select-seen (λ e. e.near.held ≡ (own_record p d).held) d p (λ r. refl) (λ q. absurd (select-open (unrefused d p true _ q).quiet))
  own-call (tell memory) = λ l.
      tell-seen (λ e. e.near.held ≡ (own_record p d).held) d p memory (λ r. refl)
      (λ q. tell-near-case (λ e. e.near.held ≡ (own_record p d).held) (seen_from p d) memory (λ _. refl) (λ _. refl))
  own-call (take_word memory word) = λ l.
      take-seen (λ e. e.near.held ≡ (own_record p d).held) d p memory word (λ r. refl)
      (λ q. take-near-case (λ e. e.near.held ≡ (own_record p d).held) (seen_from p d) memory word (λ _. refl) (λ _. refl))
  own-call (release memory left) =
      release-seen (λ e. Held e.near) d p (length memory) left (λ r l. refl)
      (λ q l. never (sym l ∙ release-ends (length memory) left (unrefused d p _ _ q).quiet))

  -- by calls of the other port: ACTIVATE leaves the record's bases, and DEACTIVATE no live message
  own : (e : Ports) → other_record (1 - p) e ≡ own_record p e
  own e = ap (λ (x : Ports). x.far) (across p e port)

  stays : (e : Ports) → other_record (1 - p) e ≡ other_record (1 - p) d → Held (own_record p e)
  stays e same l = ap (λ (r : PortRecord). r.held) (sym (own e) ∙ same ∙ own d)

  switched-held : (r : PortRecord) (code : ℕ) → (code ≡ activate.code) ⊎ (code ≡ deactivate.code)
      → live (switched r code) ≡ true → (switched r code).held ≡ r.held
  unfolding switched live
  switched-held r code (inl on) l = rw on
  switched-held r code (inr off) l = never (sym l ∙ rw off)

  other-call : (call : OneCall) → Held (own_record p (port_answer (1 - p) d call).after)
  unfolding port_answer
  other-call (set_module stf state) = λ l. ap (λ (r : PortRecord). r.held) (module-frame d p stf state)
  other-call select = stays _ (select-frame d (1 - p))
  other-call (tell memory) = stays _ (tell-frame d (1 - p) memory)
  other-call (take_word memory word) = stays _ (take-frame d (1 - p) memory word)
  other-call (release memory left) = go (release-frame d (1 - p) (length memory) left)
    where
      after : Ports
      after = (released_ports d (1 - p) (length memory) left).ports

      go : (other_record (1 - p) after ≡ other_record (1 - p) d)
          ⊎ (Switches d (1 - p) (length memory) left
          × (other_record (1 - p) after ≡ switched (other_record (1 - p) d) (fields (view_from (1 - p) d)).code))
          → Held (own_record p after)
      go (inl same) = stays after same
      go (inr (s, e)) =
          subst Held (sym e ∙ own after)
          (λ l. switched-held (other_record (1 - p) d) _ s.code l ∙ ap (λ (r : PortRecord). r.held) (own d))

  -- on no port every call but the module state is refused
  no-call : (q : ℕ) → is_port q ≡ false → (call : OneCall) → Held (own_record p (port_answer q d call).after)
  unfolding port_answer ports_select_refusal ports_word_refusal ports_release_refusal
  no-call q f (set_module stf state) = λ l. ap (λ (r : PortRecord). r.held) (module-frame d p stf state)
  no-call q f select =
      selected-ports-case (λ a. Held (own_record p a.ports)) d q (λ r l. refl) (λ n. never (sym (unrefused d q true _ n).port ∙ f))
  no-call q f (tell memory) =
      told-ports-case (λ a. Held (own_record p a.ports)) d q memory (λ r l. refl) (λ n. never (sym (unrefused d q _ _ n).port ∙ f))
  no-call q f (take_word memory word) =
      took-ports-case (λ a. Held (own_record p a.ports)) d q memory word (λ r l. refl) (λ n. never (sym (unrefused d q _ _ n).port ∙ f))
  no-call q f (release memory left) =
      released-ports-case (λ a. Held (own_record p a.ports)) d q (length memory) left (λ r l. refl)
      (λ n. never (sym (unrefused d q _ _ n).port ∙ f))

  any-call : (q : ℕ) (call : OneCall) → Held (own_record p (port_answer q d call).after)
  any-call q call = go (which p q port)
    where
      go : (q ≡ p) ⊎ ((q ≡ 1 - p) ⊎ (is_port q ≡ false)) → Held (own_record p (port_answer q d call).after)
      go (inl e) = rw e (own-call call)
      go (inr (inl e)) = rw e (other-call call)
      go (inr (inr f)) = no-call q f call

  -- the bases that its port sees are those of before
  pub call-keeps-seen-bases : (q : ℕ) (call : OneCall) → live (own_record p (port_answer q d call).after) ≡ true
      → (view_from p (port_answer q d call).after).bases ≡ (view_from p d).bases
  call-keeps-seen-bases q call l =
      live-bases (seen_from p (port_answer q d call).after) (is-live _ l).selected ∙ any-call q call l ∙ sym (live-bases (seen_from p d) is-open)

-- ---- calls one after the other

module _ (p : ℕ) (port : is_port p ≡ true) (d : Ports) where
  still-live : {e : Ports} → WhileLive p d e → live (own_record p d) ≡ true → live (own_record p e) ≡ true
  still-live start l = l
  still-live (one_call r q call a) l = a

  -- as long as it is live
  pub live-keeps-seen-bases : {e : Ports} → WhileLive p d e → live (own_record p d) ≡ true → (view_from p e).bases ≡ (view_from p d).bases
  live-keeps-seen-bases start l = refl
  live-keeps-seen-bases (one_call {e = e} r q call a) l = call-keeps-seen-bases p port e (still-live r l) q call a ∙ live-keeps-seen-bases r l

-- a message sees the bases as they stood at its select, whatever is called meanwhile on either port
pub bases-of-select : (d : Ports) (p : ℕ) → (own_record p d).active ≡ true → ports_select_refusal d p ≡ refusal.none → {e : Ports}
    → WhileLive p (selected_ports d p).ports e → (view_from p e).bases ≡ d.bases
unfolding ports_select_refusal
bases-of-select d p active quiet r =
    live-keeps-seen-bases p (unrefused d p true _ quiet).port _ r (select-live d p active quiet) ∙ select-takes-bases d p active quiet
