-- A card of which nothing but status bits and last token is changed.
-- Assumes nothing.
use Prim.Native.Nat.{ℕ}
use mathlib.Core.Path.{◌≡◌, refl, sym, ap, ◌∙◌}
use mathlib.Core.Bool.{Bool, true, false}
use mathlib.Core.List.{List}
use lib.Dec.{lit≤}
use Rattle.card.specs.Release.{bases_of}
use Rattle.card.specs.State.{emptied}
use Rattle.card.specs.declared.Card.{Card}
use Rattle.card.specs.declared.Message.{Message}
use Rattle.card.specs.declared.Port.{Port}
use Rattle.card.proofs.Holding.{Idle}
use Rattle.card.proofs.Laws.{InRange}
use Rattle.judge.specs.declared.Bases.{Bases}
use Rattle.judge.proofs.Laws.{never}
use Rattle.delivery.specs.AnyCommand.{with_base}
use Rattle.delivery.specs.Delivery.{Kept}

-- ---- what is kept

pub kept-self : {alone : Bool} (c : Card) → c.port.message ≡ emptied false → Kept alone c c
kept-self c h = record { size = refl; bases = refl; closed = h; time = λ e. refl; stf = λ e. refl; module_state = λ e. refl }

pub kept-trans : {alone : Bool} (a b c : Card) → Kept alone a b → Kept alone b c → Kept alone a c
kept-trans a b c h g =
    record {
      size = g.size ∙ h.size;
      bases = g.bases ∙ h.bases;
      closed = g.closed;
      time = λ e. g.time e ∙ h.time e;
      stf = λ e. g.stf e ∙ h.stf e;
      module_state = λ e. g.module_state e ∙ h.module_state e;
    }

-- alone with the card or not
pub kept-by : (alone : Bool) {c c' : Card} → Kept false c c' → (alone ≡ true → Kept true c c') → Kept alone c c'
kept-by true loose strict = strict refl
kept-by false loose strict = loose

pub kept-loose : {alone : Bool} {c c' : Card} → Kept alone c c' → Kept false c c'
kept-loose k =
    record { size = k.size; bases = k.bases; closed = k.closed; time = λ e. never (sym e); stf = λ e. never (sym e); module_state = λ e. never (sym e) }

pub kept-strict : {alone : Bool} {c c' : Card} → Kept alone c c' → alone ≡ true → Kept true c c'
kept-strict k e =
    record { size = k.size; bases = k.bases; closed = k.closed; time = λ t. k.time e; stf = λ t. k.stf e; module_state = λ t. k.module_state e }

pub kept-either : (alone : Bool) {c c' : Card} → Kept true c c' → Kept alone c c'
kept-either alone k = kept-by alone (kept-loose k) (λ e. k)

-- no message is open
pub kept-opened : {alone : Bool} {c c' : Card} → Kept alone c c' → c'.port.message.opened ≡ false
unfolding emptied
kept-opened k = ap (λ (m : Message). m.opened) k.closed

-- where the write base was changed too, another one is set in both
pub kept-based : {alone : Bool} (base base' : ℕ) (c : Card) {c' : Card} → Kept alone (with_base base c) c' → Kept alone (with_base base' c) (with_base base' c')
kept-based base base' c k =
    record {
      size = k.size;
      bases = ap (λ (b : Bases). bases_of base' b.read_base) k.bases;
      closed = k.closed;
      time = k.time;
      stf = k.stf;
      module_state = k.module_state;
    }

-- ---- two cards that are alike: the same one, but where another port is busy for time, STF and module state

pub record Like (alone : Bool) (c c' : Card) : Type 0 where
  pub size : c'.size ≡ c.size
  pub bases : c'.bases ≡ c.bases
  pub port : c'.port ≡ c.port
  pub same : alone ≡ true → c' ≡ c

pub like-self : {alone : Bool} (c : Card) → Like alone c c
like-self c = record { size = refl; bases = refl; port = refl; same = λ e. refl }

pub like-same : {alone : Bool} {c c' : Card} → c' ≡ c → Like alone c c'
like-same e = record { size = ap (λ (x : Card). x.size) e; bases = ap (λ (x : Card). x.bases) e; port = ap (λ (x : Card). x.port) e; same = λ t. e }

pub like-kept : {alone : Bool} {c c' : Card} → Like alone c c' → c.port.message ≡ emptied false → Kept alone c c'
like-kept l closed =
    record {
      size = l.size;
      bases = l.bases;
      closed = ap (λ (p : Port). p.message) l.port ∙ closed;
      time = λ e. ap (λ (x : Card). x.time) (l.same e);
      stf = λ e. ap (λ (x : Card). x.stf) (l.same e);
      module_state = λ e. ap (λ (x : Card). x.module_state) (l.same e);
    }

-- ---- no message open, and the state in range: such a card refuses a module-state call for its argument alone

pub record Shut (c : Card) : Type 0 where
  pub ranged : InRange c
  pub closed : c.port.message ≡ emptied false

pub idle-shut : {c : Card} {memory : List ℕ} → Idle c memory → Shut c
idle-shut idle = record { ranged = idle.ranged; closed = idle.closed }

pub kept-shut : {c c' : Card} → Shut c → Kept true c c' → Shut c'
unfolding emptied
kept-shut s k =
    record {
      ranged = record { size = rw k.size s.ranged.size; count = rw k.closed (lit≤ tt); module_state = rw (k.module_state refl) s.ranged.module_state };
      closed = k.closed;
    }

pub based-shut : {c : Card} → Shut c → (base : ℕ) → Shut (with_base base c)
based-shut s base =
    record { ranged = record { size = s.ranged.size; count = s.ranged.count; module_state = s.ranged.module_state }; closed = s.closed }
