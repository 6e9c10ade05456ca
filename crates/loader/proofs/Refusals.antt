-- A refusal changes nothing: where the number that an operation answers is not 0, state and lent buffer are as they were given, no word is
-- written, and nothing is said of a card. A refused start gives its number alone.
-- Assumes nothing.
use Prim.Native.Nat.{ℕ}
use mathlib.Core.Bool.{false, ◌||◌}
use mathlib.Core.List.{List}
use mathlib.Core.Path.{◌≡◌, refl}
use lib.Dec.{eqb}
use lib.ListN.{length}
use Rattle.rules.specs.Refusals as refusal
use Rattle.rules.proofs.Cases.{by-test, by-number, refused-second, refused-first}
use Rattle.loader.specs.Loader.{loader, load_goes, out_of_load, load_start_refusal, load_started, card_now, all_over, load_ask_refusal, load_asked, load_asked_buffer, load_give_refusal, load_given}
use Rattle.loader.specs.Answers.{AllOver}
use Rattle.loader.specs.Answers.{CardNow}
use Rattle.loader.specs.declared.Load.TheVariants.{NotYet}
use Rattle.loader.specs.Answers.{LoadAsked}
use Rattle.loader.specs.Answers.{LoadGiven}
use Rattle.loader.specs.Answers.{LoadStarted}
use Rattle.loader.specs.declared.Loader.{Loader}

abbrev NumberAlone : LoadStarted → Type 0
NumberAlone a = (a.refusal ≡ refusal.none → ⊥) → (a.load ≡ NotYet) × (a.state ≡ loader 0 0 0 0 0 0)

pub start-refused : (cards least greatest len : ℕ) → NumberAlone (load_started cards least greatest len)
unfolding load_started
start-refused cards least greatest len =
    by-number NumberAlone (load_start_refusal cards least greatest len) (λ refused h. (refl, refl))
    (λ none. by-test NumberAlone (eqb len 0 || eqb cards 0) (λ empty h. absurd (h refl)) (λ some h. absurd (h refl)))

abbrev NoCard : CardNow → Type 0
NoCard a = (a.refusal ≡ refusal.none → ⊥) → a.card ≡ 0

pub card-refused : (s : Loader) → NoCard (card_now s)
unfolding card_now
card-refused s =
    by-test NoCard (out_of_load s) (λ out h. refl) (λ inside. by-test NoCard (load_goes s) (λ goes h. absurd (h refl)) (λ over h. refl))

pub over-refused : (s : Loader) → ((all_over s).refusal ≡ refusal.none → ⊥) → (all_over s).over ≡ false
unfolding all_over
over-refused s h = rw (refused-first (λ (a : AllOver). a.refusal) (out_of_load s) _ _ refl h)

pub ask-refused : (s : Loader) (table buffer : List ℕ) → ((load_asked s table (length buffer)).refusal ≡ refusal.none → ⊥)
    → ((load_asked s table (length buffer)).words ≡ 0) × ((load_asked s table (length buffer)).state ≡ s) × (load_asked_buffer s table buffer ≡ buffer)
unfolding load_asked load_asked_buffer
ask-refused s table buffer h =
    rw (refused-second (λ (a : LoadAsked). a.refusal) (eqb (load_ask_refusal s table (length buffer)) refusal.none) _ _ refl h) (refl, refl, refl)

pub give-refused : (s : Loader) (cards : ℕ) (words : List ℕ) → ((load_given s cards words).refusal ≡ refusal.none → ⊥)
    → ((load_given s cards words).load ≡ NotYet) × ((load_given s cards words).state ≡ s)
unfolding load_given
give-refused s cards words h =
    rw (refused-second (λ (a : LoadGiven). a.refusal) (eqb (load_give_refusal s cards (length words)) refusal.none) _ _ refl h) (refl, refl)
