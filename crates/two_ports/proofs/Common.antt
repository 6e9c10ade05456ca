-- What a call does to STF, module state and the bases, which the ports have in common. A call on a port leaves STF and module state, which the module
-- call alone sets; that one leaves the bases (`module-drifts` of Drift.antt). The bases are moved by the release of a live and accepted RESET, CONFIG WRITE or CONFIG READ, and by nothing else: CONFIG sets its own base and leaves the
-- other as it stands by then. RESET leaves which ports are active, and the other port's record.
-- Assumes nothing.
use Prim.Native.Nat.{ℕ}
use native.Mathlib.Omega.{arith}
use mathlib.Core.Bool.{Bool, true, false, not}
use mathlib.Core.List.{List}
use mathlib.Core.Logic.{◌⊎◌, inl, inr}
use mathlib.Core.Path.{◌≡◌, refl, sym, ap, ◌∙◌, subst}
use borrow.Author.Tests.{not-true, ne_eqb}
use Rattle.rules.specs.Refusals as refusal
use Rattle.rules.specs.Rules.{reset, config_write, config_read, activate, deactivate}
use Rattle.judge.proofs.Laws.{never}
use Rattle.token.proofs.Good.{both}
use Rattle.token.specs.Response.{clean, any_set}
use Rattle.judge.specs.declared.Bases.{Bases}
use Rattle.card.specs.Exchange.{fields}
use Rattle.card.specs.Release.{bases_of, bases_after, first32, silent, judged, acted, ended, is_accepted}
use Rattle.card.specs.declared.Card.{Card}
use Rattle.card.proofs.Cases.{released-case}
use Rattle.two_ports.specs.declared.Ports.{Ports}
use Rattle.two_ports.specs.State.{no_bases, live, seen_from, view_from}
use Rattle.two_ports.specs.Ports.{select_near, selected_ports, told_ports, took_ports, bases_moved, switched, release_live, release_dead, ports_release_refusal, released_ports}
use Rattle.two_ports.proofs.Cases.{unrefused, tell-near-case, take-near-case, release-near-case}
use Rattle.two_ports.proofs.Frame.{own_record, other_record, seen-twice, seen-has, seen-bases, select-seen, tell-seen, take-seen, release-seen, Switches, release-frame, release-active}

-- ---- STF and module state

pub record ModuleKept (d d' : Ports) : Type 0 where
  pub stf : d'.stf ≡ d.stf
  pub module_state : d'.module_state ≡ d.module_state

-- as a port sees it, and so as it is
kept-seen : (d : Ports) (p : ℕ) (e : Ports) → ModuleKept d e → ModuleKept d (seen_from p e)
kept-seen d = seen-has (ModuleKept d) (λ e k. record { stf = k.stf; module_state = k.module_state })

kept-back : (d : Ports) (p : ℕ) (e : Ports) → ModuleKept d (seen_from p e) → ModuleKept d e
kept-back d p e k = subst (ModuleKept d) (seen-twice p e) (kept-seen d p (seen_from p e) k)

-- no call on a port sets them
module _ (d : Ports) (p : ℕ) where
  same : ModuleKept d (seen_from p d)
  same = kept-seen d p d (record { stf = refl; module_state = refl })

  pub select-keeps-module : ModuleKept d (selected_ports d p).ports
  unfolding select_near
  select-keeps-module =
      kept-back d p _ (select-seen (ModuleKept d) d p (λ r. same) (λ q. record { stf = same.stf; module_state = same.module_state }))

  pub tell-keeps-module : (memory : List ℕ) → ModuleKept d (told_ports d p memory).ports
  tell-keeps-module memory =
      kept-back d p _ (tell-seen (ModuleKept d) d p memory (λ r. same)
      (λ q. tell-near-case (ModuleKept d) (seen_from p d) memory (λ l. record { stf = same.stf; module_state = same.module_state }) (λ l. same)))

  pub take-keeps-module : (memory : List ℕ) (word : ℕ) → ModuleKept d (took_ports d p memory word).ports
  take-keeps-module memory word =
      kept-back d p _ (take-seen (ModuleKept d) d p memory word (λ r. same)
      (λ q. take-near-case (ModuleKept d) (seen_from p d) memory word (λ l. record { stf = same.stf; module_state = same.module_state })
      (λ l. same)))

  pub release-keeps-module : (size left : ℕ) → ModuleKept d (released_ports d p size left).ports
  unfolding release_live release_dead
  release-keeps-module size left =
      kept-back d p _ (release-seen (ModuleKept d) d p size left (λ r. same)
      (λ q. release-near-case (ModuleKept d) (seen_from p d) size left (λ l. record { stf = same.stf; module_state = same.module_state })
      (λ l. record { stf = same.stf; module_state = same.module_state })))

-- ---- the bases

-- seen back, the bases are those that the port's call left
bases-back : (p : ℕ) (e : Ports) (b : Bases) → (seen_from p e).bases ≡ b → e.bases ≡ b
bases-back p e b h = sym (seen-bases p e) ∙ h

-- no call but a release moves them
module _ (d : Ports) (p : ℕ) where
  pub select-keeps-bases : (selected_ports d p).ports.bases ≡ d.bases
  unfolding select_near
  select-keeps-bases = bases-back p _ _ (select-seen (λ e. e.bases ≡ d.bases) d p (λ r. seen-bases p d) (λ q. seen-bases p d))

  pub tell-keeps-bases : (memory : List ℕ) → (told_ports d p memory).ports.bases ≡ d.bases
  tell-keeps-bases memory =
      bases-back p _ _ (tell-seen (λ e. e.bases ≡ d.bases) d p memory (λ r. seen-bases p d)
      (λ q. tell-near-case (λ e. e.bases ≡ d.bases) (seen_from p d) memory (λ l. seen-bases p d) (λ l. seen-bases p d)))

  pub take-keeps-bases : (memory : List ℕ) (word : ℕ) → (took_ports d p memory word).ports.bases ≡ d.bases
  take-keeps-bases memory word =
      bases-back p _ _ (take-seen (λ e. e.bases ≡ d.bases) d p memory word (λ r. seen-bases p d)
      (λ q. take-near-case (λ e. e.bases ≡ d.bases) (seen_from p d) memory word (λ l. seen-bases p d) (λ l. seen-bases p d)))

module _ (d : Ports) (p size left : ℕ) where
  abbrev after : Ports
  after = (released_ports d p size left).ports

  abbrev code : ℕ
  code = (fields (view_from p d)).code

  -- a release that is refused, of a dead message, or of a message that is refused, leaves them
  pub release-keeps-bases : (ports_release_refusal d p size left ≡ refusal.none
      → live (own_record p d) ≡ true → is_accepted (view_from p d) left ≡ true → ⊥)
      → after.bases ≡ d.bases
  unfolding release_live release_dead bases_moved
  release-keeps-bases h =
      bases-back p after d.bases (release-seen (λ e. e.bases ≡ d.bases) d p size left (λ r. seen-bases p d)
      (λ q. release-near-case (λ e. e.bases ≡ d.bases) (seen_from p d) size left
      (λ l. go (is_accepted (view_from p d) left) refl (λ a. h q l a)) (λ l. seen-bases p d)))
    where
      go : (b : Bool) → is_accepted (view_from p d) left ≡ b → (b ≡ true → ⊥) → bases_moved (seen_from p d) left ≡ d.bases
      go true e f = absurd (f refl)
      go false e f = rw e (seen-bases p d)

  -- a live and accepted message
  module _ (quiet : ports_release_refusal d p size left ≡ refusal.none) (alive : live (own_record p d) ≡ true)
      (accepted : is_accepted (view_from p d) left ≡ true) where
    bases-after : after.bases ≡ bases_after d.bases code (first32 (view_from p d))
    unfolding release_live bases_moved
    bases-after =
        bases-back p after _ (release-seen (λ e. e.bases ≡ moved) d p size left (λ r. absurd (r quiet))
        (λ _. release-near-case (λ e. e.bases ≡ moved) (seen_from p d) size left
        (λ l. rw accepted (ap (λ (b : Bases). bases_after b code (first32 (view_from p d))) (seen-bases p d))) (λ f. never (sym alive ∙ f))))
      where
        moved : Bases
        moved = bases_after d.bases code (first32 (view_from p d))

    -- CONFIG WRITE sets the write base to its payload, and leaves the read base as it stands by then
    pub config-write-moves : code ≡ config_write.code → after.bases ≡ bases_of (first32 (view_from p d)) d.bases.read_base
    unfolding bases_after
    config-write-moves c = bases-after ∙ rw c

    -- CONFIG READ sets the read base, and leaves the write base
    pub config-read-moves : code ≡ config_read.code → after.bases ≡ bases_of d.bases.write_base (first32 (view_from p d))
    unfolding bases_after
    config-read-moves c = bases-after ∙ rw c

    -- RESET clears both
    pub reset-clears-bases : code ≡ reset.code → after.bases ≡ no_bases
    unfolding bases_after
    reset-clears-bases c = bases-after ∙ rw c

    -- any other command leaves them
    pub other-keeps-bases : (code ≡ reset.code → ⊥) → (code ≡ config_write.code → ⊥) → (code ≡ config_read.code → ⊥) → after.bases ≡ d.bases
    unfolding bases_after
    other-keeps-bases r w c = bases-after ∙ rw (ne_eqb code reset.code r, ne_eqb code config_write.code w, ne_eqb code config_read.code c)

    -- ---- the status bits of its own port are cleared

    ended-clean : (c : Card) → is_accepted c left ≡ true → (ended c left).port.status ≡ clean
    unfolding is_accepted ended acted
    ended-clean c h =
        let (some, none) = both (not (silent c left)) (not (any_set (judged c left))) h in
        rw (not-true (silent c left) some, not-true (any_set (judged c left)) none)

    pub accepted-clears-status : (own_record p after).port.status ≡ clean
    unfolding release_live ports_release_refusal
    accepted-clears-status =
        release-seen (λ e. e.near.port.status ≡ clean) d p size left (λ r. absurd (r quiet))
        (λ q. release-near-case (λ e. e.near.port.status ≡ clean) (seen_from p d) size left
        (λ l. released-case (λ a. a.card.port.status ≡ clean) (view_from p d) size left (λ r. absurd (r (unrefused d p _ _ q).quiet))
        (λ _. ended-clean (view_from p d) accepted))
        (λ f. never (sym alive ∙ f)))

    -- ---- RESET: bases 0 and its own port's status bits 0; which ports are active stays, and so does the other port's whole record

    pub record ResetDone : Type 0 where
      pub bases : after.bases ≡ no_bases
      pub status : (own_record p after).port.status ≡ clean
      pub active : (own_record p after).active ≡ (own_record p d).active
      pub other : other_record p after ≡ other_record p d

    pub reset-done : code ≡ reset.code → ResetDone
    reset-done c =
        record {
          bases = reset-clears-bases c;
          status = accepted-clears-status;
          active = release-active d p size left;
          other = stays (release-frame d p size left);
        }
      where
        no-switch : (code ≡ activate.code) ⊎ (code ≡ deactivate.code) → ⊥
        no-switch (inl a) = omega (arith, a, c)
        no-switch (inr a) = omega (arith, a, c)

        stays : (other_record p after ≡ other_record p d) ⊎ (Switches d p size left × (other_record p after ≡ switched (other_record p d) code))
            → other_record p after ≡ other_record p d
        stays (inl e) = e
        stays (inr (s, e)) = absurd (no-switch s.code)
