-- One case law for each operation of the card: a property holds after it if it holds where the operation refuses and where it
-- does not.
-- Assumes nothing.
use Prim.Native.Nat.{ℕ}
use native.Mathlib.Omega.{arith}
use mathlib.Core.Bool.{Bool, true, false}
use mathlib.Core.List.{List}
use mathlib.Core.Path.{◌≡◌, refl, ap, ◌∙◌}
use lib.ListN.{length}
use Rattle.rules.specs.Refusals as refusal
use Rattle.rules.proofs.Cases.{by-test, by-number}
use Rattle.token.specs.Response.{any_set}
use Rattle.card.specs.Release.{silent, judged, acted, noted, ended, ended_memory, release_refusal, released, memory_after}
use Rattle.card.specs.Card.{gives_card, powered, selected, module_refusal, module_set, word_refusal}
use Rattle.card.specs.Exchange.{Exchanged, check_after, next_word, taken, told, took, exchanged, with_told, word_told}
use Rattle.card.specs.State.{emptied, fresh, with_message, with_module, with_note, sized, out_of_range}
use Rattle.card.specs.declared.Card.{Card}
use Rattle.card.specs.Answers.{CardAfter}
use Rattle.card.specs.declared.Note.{Note}
use Rattle.card.specs.Answers.{Told}

-- ---- power-up

pub powered-case : (P : CardAfter → Type 0) (size : ℕ)
    → P (gives_card refusal.size (fresh 0))
    → (sized size ≡ true → P (gives_card refusal.none (fresh size)))
    → P (powered size)
unfolding powered
powered-case P size refused done = by-test P (sized size) done (λ e. refused)

-- ---- select and module state

pub selected-case : (P : CardAfter → Type 0) (c : Card)
    → ((n : ℕ) → (n ≡ refusal.none → ⊥) → P (gives_card n c))
    → (out_of_range c ≡ false → c.port.message.opened ≡ false → P (gives_card refusal.none (with_message c (emptied true))))
    → P (selected c)
unfolding selected
selected-case P c refused done =
    by-test P (out_of_range c) (λ r. refused refusal.state (omega arith))
    (λ r. by-test P c.port.message.opened (λ o. refused refusal.still_open (omega arith)) (done r))

pub module-case : (P : CardAfter → Type 0) (c : Card) (stf : Bool) (state : ℕ)
    → ((module_refusal c state ≡ refusal.none → ⊥) → P (gives_card (module_refusal c state) c))
    → (module_refusal c state ≡ refusal.none → P (gives_card refusal.none (with_module c stf state)))
    → P (module_set c stf state)
unfolding module_set
module-case P c stf state = by-number P (module_refusal c state)

-- ---- tell and take

pub told-case : (P : Told → Type 0) (c : Card) (memory : List ℕ)
    → ((word_refusal c (length memory) ≡ refusal.none → ⊥) → P (record { refusal = word_refusal c (length memory); card = c; word = 0 }))
    → (word_refusal c (length memory) ≡ refusal.none → P (record { refusal = refusal.none; card = with_told c memory; word = next_word c memory }))
    → P (told c memory)
unfolding told
told-case P c memory = by-number P (word_refusal c (length memory))

pub took-case : (P : CardAfter → Type 0) (c : Card) (memory : List ℕ) (word : ℕ)
    → ((word_refusal c (length memory) ≡ refusal.none → ⊥) → P (gives_card (word_refusal c (length memory)) c))
    → (word_refusal c (length memory) ≡ refusal.none → P (gives_card refusal.none (with_message c (taken c word (word_told c memory)))))
    → P (took c memory word)
unfolding took
took-case P c memory word = by-number P (word_refusal c (length memory))

-- where they are not refused
pub told-quiet : (c : Card) (memory : List ℕ) → word_refusal c (length memory) ≡ refusal.none
    → told c memory ≡ record { refusal = refusal.none; card = with_told c memory; word = next_word c memory }
unfolding told
told-quiet c memory quiet = rw quiet

pub took-quiet : (c : Card) (memory : List ℕ) (word : ℕ) → word_refusal c (length memory) ≡ refusal.none
    → took c memory word ≡ gives_card refusal.none (with_message c (taken c word (word_told c memory)))
unfolding took
took-quiet c memory word quiet = rw quiet

-- the word that goes out, by the note
pub as-noted : (c : Card) (memory : List ℕ) → c.port.message.note.told ≡ true → word_told c memory ≡ c.port.message.note.word
unfolding word_told
as-noted c memory h = rw h

pub none-told : (c : Card) (memory : List ℕ) → c.port.message.note.told ≡ false → word_told c memory ≡ next_word c memory
unfolding word_told
none-told c memory h = rw h

-- ---- a word told, and then one taken

-- a note changes no refusal, and so a telling changes none
pub note-refusal : (c : Card) (n : Note) (size : ℕ) → word_refusal (with_note c n) size ≡ word_refusal c size
unfolding word_refusal out_of_range
note-refusal c n size = refl

pub told-refusal : (c : Card) (memory : List ℕ) (size : ℕ) → word_refusal (with_told c memory) size ≡ word_refusal c size
unfolding word_refusal out_of_range with_told
told-refusal c memory size = refl

-- the word told is the one that goes out, whatever memory is lent by then
told-goes-out : (c : Card) (memory other : List ℕ) → word_told (with_told c memory) other ≡ next_word c memory
unfolding word_told with_told
told-goes-out c memory other = refl

-- and nothing else of the telling is left when the other is taken
taken-noted : (c : Card) (memory : List ℕ) (word sent : ℕ) → with_message (with_told c memory) (taken (with_told c memory) word sent) ≡ with_message c (taken c word sent)
unfolding with_told taken check_after
taken-noted c memory word sent = refl

pub took-noted : (c : Card) (memory other : List ℕ) (word : ℕ) → word_refusal c (length other) ≡ refusal.none
    → took (with_told c memory) other word ≡ gives_card refusal.none (with_message c (taken c word (next_word c memory)))
took-noted c memory other word quiet =
    took-quiet (with_told c memory) other word (told-refusal c memory (length other) ∙ quiet)
    ∙ ap (λ (w : ℕ). gives_card refusal.none (with_message (with_told c memory) (taken (with_told c memory) word w))) (told-goes-out c memory other)
    ∙ ap (gives_card refusal.none) (taken-noted c memory word (next_word c memory))

pub exchanged-case : (P : Exchanged → Type 0) (c : Card) (memory : List ℕ) (word : ℕ)
    → ((word_refusal c (length memory) ≡ refusal.none → ⊥) → P (record { refusal = word_refusal c (length memory); card = c; sent = 0 }))
    → (word_refusal c (length memory) ≡ refusal.none → P (record { refusal = refusal.none; card = with_message c (taken c word (next_word c memory)); sent = next_word c memory }))
    → P (exchanged c memory word)
unfolding exchanged
exchanged-case P c memory word refused done =
    told-case (λ t. P (record { refusal = t.refusal; card = (took t.card memory word).card; sent = t.word })) c memory
    (λ r. took-case (λ a. P (record { refusal = word_refusal c (length memory); card = a.card; sent = 0 })) c memory word refused (λ q. absurd (r q)))
    (λ q. rw (took-noted c memory memory word q) (done q))

-- where it is not refused
pub exchanged-quiet : (c : Card) (memory : List ℕ) (word : ℕ) → word_refusal c (length memory) ≡ refusal.none
    → exchanged c memory word ≡ record { refusal = refusal.none; card = with_message c (taken c word (next_word c memory)); sent = next_word c memory }
exchanged-quiet c memory word quiet =
    exchanged-case (λ e. e ≡ record { refusal = refusal.none; card = with_message c (taken c word (next_word c memory)); sent = next_word c memory }) c memory word
    (λ r. absurd (r quiet)) (λ q. refl)

-- ---- release: the card, and the lent memory

pub released-case : (P : CardAfter → Type 0) (c : Card) (size left : ℕ)
    → ((release_refusal c size left ≡ refusal.none → ⊥) → P (gives_card (release_refusal c size left) c))
    → (release_refusal c size left ≡ refusal.none → P (gives_card refusal.none (ended c left)))
    → P (released c size left)
unfolding released
released-case P c size left = by-number P (release_refusal c size left)

pub memory-case : (P : List ℕ → Type 0) (c : Card) (memory : List ℕ) (left : ℕ)
    → ((release_refusal c (length memory) left ≡ refusal.none → ⊥) → P memory)
    → (release_refusal c (length memory) left ≡ refusal.none → P (ended_memory c memory left))
    → P (memory_after c memory left)
unfolding memory_after
memory-case P c memory left = by-number P (release_refusal c (length memory) left)

-- ---- a message released: of no bits, refused by its judgement, accepted

pub ended-case : (P : Card → Type 0) (c : Card) (left : ℕ)
    → P (with_message c (emptied false))
    → (any_set (judged c left) ≡ true → P (noted c (judged c left)))
    → (any_set (judged c left) ≡ false → P (acted c))
    → P (ended c left)
unfolding ended
ended-case P c left none refused accepted = by-test P (silent c left) (λ s. none) (λ s. by-test P (any_set (judged c left)) refused accepted)
