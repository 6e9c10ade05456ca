-- Tell and take apart, each lent a memory of its own: what a telling changes, and which word counts.
-- Assumes nothing.
use Prim.Native.Nat.{ℕ}
use mathlib.Core.Bool.{true, false}
use mathlib.Core.List.{List}
use mathlib.Core.Path.{◌≡◌, refl, sym, ap, ◌∙◌}
use lib.ListN.{length}
use Rattle.rules.specs.Refusals as refusal
use Rattle.card.specs.Card.{gives_card, powered, selected, word_refusal}
use Rattle.card.specs.Exchange.{next_word, payload_word, passed_word, taken, told, took, exchanged, with_told}
use Rattle.card.specs.Release.{silent, judged, noted, acted, ended, is_accepted, writes, stored, ended_memory, release_refusal, released, memory_after}
use Rattle.card.specs.State.{emptied, fresh, note_of, no_note, with_message, with_note}
use Rattle.card.specs.declared.Card.{Card}
use Rattle.card.specs.Answers.{CardAfter}
use Rattle.card.specs.declared.Note.{Note}
use Rattle.card.proofs.Cases.{powered-case, selected-case, told-case, took-case, took-quiet, as-noted, none-told, note-refusal, took-noted, released-case, ended-case}
use Rattle.card.proofs.Refusals.{told-number}

-- the note of a card
abbrev pub note_in : Card → Note
note_in c = c.port.message.note

-- ---- tell

-- tell changes only the note
pub tell-notes : (c : Card) (memory : List ℕ) → (told c memory).card ≡ with_note c (note_in (told c memory).card)
unfolding with_told
tell-notes c memory = told-case (λ t. t.card ≡ with_note c (note_in t.card)) c memory (λ r. refl) (λ q. refl)

-- the word told is the one noted
pub tell-word : (c : Card) (memory : List ℕ) → (told c memory).refusal ≡ refusal.none → note_in (told c memory).card ≡ note_of (told c memory).word
unfolding with_told
tell-word c memory =
    told-case (λ t. t.refusal ≡ refusal.none → note_in t.card ≡ note_of t.word) c memory (λ r h. absurd (r h)) (λ q h. refl)

-- a note does not change what is told
told-noted : (c : Card) (n : Note) (memory : List ℕ) → word_refusal c (length memory) ≡ refusal.none → told (with_note c n) memory ≡ told c memory
unfolding with_told told next_word payload_word passed_word
told-noted c n memory quiet = rw (note-refusal c n (length memory), quiet)

-- a second telling is as if the first had not been
pub tell-again : (c : Card) (first second : List ℕ) → (told c second).refusal ≡ refusal.none → told (told c first).card second ≡ told c second
unfolding with_told
tell-again c first second quiet =
    told-case (λ t. told t.card second ≡ told c second) c first (λ r. refl)
    (λ q. told-noted c (note_of (next_word c first)) second (sym (told-number c second) ∙ quiet))

-- ---- take

took-refused-is : (c : Card) (memory : List ℕ) (word : ℕ) → (word_refusal c (length memory) ≡ refusal.none → ⊥)
    → took c memory word ≡ gives_card (word_refusal c (length memory)) c
took-refused-is c memory word r =
    took-case (λ a. a ≡ gives_card (word_refusal c (length memory)) c) c memory word (λ _. refl) (λ q. absurd (r q))

-- take after tell is the exchange, on the memory that was lent to tell: what take is lent does not count, but for its size
pub take-told : (c : Card) (memory other : List ℕ) (word : ℕ) → length other ≡ length memory
    → took (told c memory).card other word ≡ gives_card (exchanged c memory word).refusal (exchanged c memory word).card
unfolding exchanged
take-told c memory other word same =
    let as_lent : word_refusal c (length other) ≡ word_refusal c (length memory) = ap (word_refusal c) same in
    told-case (λ t. took t.card other word ≡ gives_card t.refusal (took t.card memory word).card) c memory
    (λ r. took-refused-is c other word (λ q. r (sym as_lent ∙ q)) ∙ ap (λ (n : ℕ). gives_card n c) as_lent
    ∙ ap (λ (a : CardAfter). gives_card (word_refusal c (length memory)) a.card) (sym (took-refused-is c memory word r)))
    (λ q. took-noted c memory other word (as_lent ∙ q)
    ∙ ap (λ (a : CardAfter). gives_card refusal.none a.card) (sym (took-noted c memory memory word q)))

-- where a word is told, the memory lent to take counts for its size alone
pub take-by-note : (c : Card) (memory other : List ℕ) (word : ℕ) → (note_in c).told ≡ true → length other ≡ length memory → took c other word ≡ took c memory word
unfolding took
take-by-note c memory other word noted same = rw (same, as-noted c memory noted, as-noted c other noted)

-- take with nothing told is tell, then take
pub take-untold : (c : Card) (memory : List ℕ) (word : ℕ) → (note_in c).told ≡ false → took c memory word ≡ took (told c memory).card memory word
take-untold c memory word none =
    told-case (λ t. took c memory word ≡ took t.card memory word) c memory (λ r. refl)
    (λ q. took-quiet c memory word q
    ∙ ap (λ (w : ℕ). gives_card refusal.none (with_message c (taken c word w))) (none-told c memory none)
    ∙ sym (took-noted c memory memory word q))

-- ---- no word is told after power-up, select, take and release

pub power-up-clears : (size : ℕ) → note_in (powered size).card ≡ no_note
unfolding fresh emptied
power-up-clears size = powered-case (λ a. note_in a.card ≡ no_note) size refl (λ e. refl)

pub select-clears : (c : Card) → (selected c).refusal ≡ refusal.none → note_in (selected c).card ≡ no_note
unfolding emptied
select-clears c = selected-case (λ a. a.refusal ≡ refusal.none → note_in a.card ≡ no_note) c (λ n r h. absurd (r h)) (λ r o h. refl)

pub take-clears : (c : Card) (memory : List ℕ) (word : ℕ) → (took c memory word).refusal ≡ refusal.none → note_in (took c memory word).card ≡ no_note
unfolding taken
take-clears c memory word =
    took-case (λ a. a.refusal ≡ refusal.none → note_in a.card ≡ no_note) c memory word (λ r h. absurd (r h)) (λ q h. refl)

pub release-clears : (c : Card) (size left : ℕ) → (released c size left).refusal ≡ refusal.none → note_in (released c size left).card ≡ no_note
unfolding noted acted emptied
release-clears c size left =
    released-case (λ a. a.refusal ≡ refusal.none → note_in a.card ≡ no_note) c size left (λ r h. absurd (r h))
    (λ q h. ended-case (λ d. note_in d ≡ no_note) c left refl (λ v. refl) (λ v. refl))

-- ---- release does not look at the note

pub release-ignores-note : (c : Card) (n : Note) (size left : ℕ) → release_refusal c size left ≡ refusal.none → released (with_note c n) size left ≡ released c size left
unfolding released release_refusal ended silent judged noted acted
release-ignores-note c n size left quiet = rw (note-refusal c n size, quiet)

pub memory-ignores-note : (c : Card) (n : Note) (memory : List ℕ) (left : ℕ) → memory_after (with_note c n) memory left ≡ memory_after c memory left
unfolding memory_after release_refusal ended_memory writes is_accepted silent judged stored
memory-ignores-note c n memory left = rw (note-refusal c n (length memory))
