-- A whole message in closed form: select, any number of words, release. What the card sends, and card and memory afterwards, as
-- functions of the card and memory before, the words, and the number of bits left over.
-- Assumes nothing.
use Prim.Native.Nat.{ℕ, ◌+◌, ◌-◌, ◌≤◌}
use native.Mathlib.Omega.{arith}
use mathlib.Core.Path.{◌≡◌, refl, sym, ap, ◌∙◌, subst₂}
use mathlib.Core.Bool.{Bool, true, false, cond, not, ◌&&◌}
use mathlib.Core.List.{List, [], ◌∷◌, ◌++◌}
use borrow.Author.Tests.{le-leb, eqb-true}
use lib.Dec.{eqb, lit≤}
use lib.ListN.{length, get_or, take, replicate, length-append, length-take, length-drop, length-replicate}
use lib.Seq.{take_at}
use Rattle.rules.specs.Rules.{write}
use Rattle.bits.proofs.Buffers.{length-written}
use Rattle.judge.specs.Judge.{judgement, word_place}
use Rattle.judge.proofs.Laws.{Accepted, accepted, token-passed, write-inside}
use Rattle.token.specs.declared.command.Command.{Command}
use Rattle.token.specs.Command.{token_of, command_fields}
use Rattle.token.specs.Response.{clean, any_set}
use Rattle.token.specs.declared.response.Status.{Status}
use Rattle.card.specs.Release.{block, silent, judged, acted, noted, ended, is_accepted, writes, stored, ended_memory, release_refusal, released, memory_after}
use Rattle.card.specs.Card.{gives_card, selected}
use Rattle.card.specs.Exchange.{fields, told}
use Rattle.card.specs.State.{emptied, with_message}
use Rattle.card.specs.declared.Card.{Card}
use Rattle.card.specs.Answers.{CardAfter}
use Rattle.card.specs.declared.Message.{Message}
use Rattle.card.proofs.Laws.{InRange}
use Rattle.card.proofs.Sound.{not-out}
use Rattle.bits.specs.Lines.{whole_words, bits_left}
use Rattle.card.specs.Whole.{after, answers, refusals, listed, listened, card_after_line, memory_after_line, refusals_of, Heard}
use Rattle.card.proofs.Holding.{Idle, room, holding, check_through, spoken, word-quiet, after-held, answers-held, refusals-held}

-- ---- the closed form

-- steps 1 to 5 of the words, by a card's size and bases
abbrev pub judged_by : Card → List ℕ → ℕ → Status
judged_by c ws left = judgement c.size c.bases ws left

-- no bit came
unfoldable pub unheard : List ℕ → ℕ → Bool
unheard ws left = eqb (length ws) 0 && eqb left 0

-- step 6 of the words: the card and the memory
abbrev pub card_acted : Card → List ℕ → Card
card_acted c ws = acted (holding c ws 0)

pub acted-status : (c : Card) (ws : List ℕ) → (card_acted c ws).port.status ≡ clean
unfolding acted
acted-status c ws = refl

pub acted-last : (c : Card) (first second : ℕ) (ws : List ℕ) → (card_acted c (first ∷ second ∷ ws)).port.last ≡ token_of first second
unfolding acted holding room
acted-last c first second ws = refl

unfoldable pub memory_acted : Card → List ℕ → List ℕ → List ℕ
memory_acted c memory ws = cond (eqb (fields (holding c ws 0)).code write.code) (stored (holding c ws 0) memory) memory

unfoldable pub card_ended : Card → List ℕ → ℕ → Card
card_ended c ws left = cond (unheard ws left) c (cond (any_set (judged_by c ws left)) (noted c (judged_by c ws left)) (card_acted c ws))

unfoldable pub memory_ended : Card → List ℕ → List ℕ → ℕ → List ℕ
memory_ended c memory ws left = cond (unheard ws left) memory (cond (any_set (judged_by c ws left)) memory (memory_acted c memory ws))

-- what a message of these words is, and these bits left over: of more words than 67, the first 67 count
pub record Closed (c : Card) (memory words : List ℕ) (left : ℕ) : Type 0 where
  -- no call is refused
  pub select_quiet : (selected c).refusal ≡ 0
  pub words_quiet : refusals (selected c).card memory words ≡ []
  -- the words sent, and the one that would be next
  pub sends : answers (selected c).card memory words ++ ((told (after (selected c).card memory words) memory).word ∷ []) ≡ spoken c memory [] 0 words
  -- the card and the memory afterwards
  pub card_is : released (after (selected c).card memory words) (length memory) left ≡ gives_card 0 (card_ended c (take 67 words) left)
  pub memory_is : memory_after (after (selected c).card memory words) memory left ≡ memory_ended c memory (take 67 words) left

-- ---- that it is so

module _ (c : Card) (memory : List ℕ) (idle : Idle c memory) where
  -- select opens the message
  pub selected-idle : selected c ≡ gives_card 0 (holding c [] 0)
  unfolding selected holding room emptied
  selected-idle = rw (not-out c idle.ranged, ap (λ (m : Message). m.opened) idle.closed)

  release-quiet : (ws : List ℕ) (k left : ℕ) → length ws ≤ 67 → left ≤ 15 → release_refusal (holding c ws k) (length memory) left ≡ 0
  unfolding release_refusal
  release-quiet ws k left h l = rw (word-quiet c memory idle ws k h, le-leb left 15 l)

  judged-held : (ws : List ℕ) (k left : ℕ) → judged (holding c ws k) left ≡ judged_by c ws left
  unfolding judged holding room
  judged-held ws k left = ap (λ (l : List ℕ). judged_by c l left) (take_at ws (replicate (67 - length ws) 0) (length ws) refl)

  ended-held : (ws : List ℕ) (k left : ℕ) → ended (holding c ws k) left ≡ card_ended c ws left
  unfolding ended card_ended silent unheard noted acted holding
  ended-held ws k left =
      rw (judged-held ws k left)
      (ap (λ (x : Card). cond (eqb (length ws) 0 && eqb left 0) x (cond (any_set (judged_by c ws left)) (noted c (judged_by c ws left)) (card_acted c ws)))
      (ap (with_message c) (sym idle.closed)))

  -- release judges it, unless no bit came
  released-held : (ws : List ℕ) (k left : ℕ) → length ws ≤ 67 → left ≤ 15
      → released (holding c ws k) (length memory) left ≡ gives_card 0 (card_ended c ws left)
  unfolding released
  released-held ws k left h l = rw (release-quiet ws k left h l, ended-held ws k left)

  memory-held : (ws : List ℕ) (k left : ℕ) → length ws ≤ 67 → left ≤ 15 → memory_after (holding c ws k) memory left ≡ memory_ended c memory ws left
  unfolding memory_after ended_memory memory_ended memory_acted writes is_accepted silent unheard stored holding
  memory-held ws k left h l =
      rw (release-quiet ws k left h l, judged-held ws k left) (go (eqb (length ws) 0 && eqb left 0) (any_set (judged_by c ws left)) _ _)
    where
      go : (s v w : Bool) (new : List ℕ) → cond (not s && not v && w) new memory ≡ cond s memory (cond v memory (cond w new memory))
      go true v w new = refl
      go false true w new = refl
      go false false w new = refl

  pub closed : (words : List ℕ) (left : ℕ) → left ≤ 15 → Closed c memory words left
  closed words left l =
      let few : length (take 67 words) ≤ 67 = simp length-take (omega arith) in
      let k : ℕ = check_through c memory [] 0 words in
      let held : after (holding c [] 0) memory words ≡ holding c (take 67 words) k = after-held c memory idle [] 0 words (lit≤ tt) in
      record {
        select_quiet = rw selected-idle;
        words_quiet = rw selected-idle (refusals-held c memory idle [] 0 words (lit≤ tt));
        sends = rw selected-idle (answers-held c memory idle [] 0 words (lit≤ tt));
        card_is = rw (selected-idle, held) (released-held (take 67 words) k left few l);
        memory_is = rw (selected-idle, held) (memory-held (take 67 words) k left few l);
      }

-- ---- what is idle is idle again after any message

-- the memory keeps its length: an accepted WRITE lies inside it
module _ (c : Card) (memory : List ℕ) (idle : Idle c memory) where
  block-long : (ws : List ℕ) → length ws ≤ 67 → length (block (holding c ws 0)) ≡ (fields (holding c ws 0)).length
  unfolding holding room command_fields
  block-long ws few =
      let long : length (ws ++ replicate (67 - length ws) 0) ≡ 67 = simp (length-append, length-replicate) (omega arith) in
      simp (length-take, length-drop) (omega (arith, long))

  stored-long : (ws : List ℕ) → word_place c.bases.write_base (fields (holding c ws 0)).sub_address + length (block (holding c ws 0)) ≤ length memory
      → length (stored (holding c ws 0) memory) ≡ length memory
  unfolding stored holding
  stored-long ws h = length-written memory _ (block (holding c ws 0)) h

  acted-long : (ws : List ℕ) (left : ℕ) → length ws ≤ 67 → any_set (judged_by c ws left) ≡ false → length (memory_acted c memory ws) ≡ length memory
  unfolding memory_acted
  acted-long ws left few ok = go (eqb (fields (holding c ws 0)).code write.code) refl
    where
      a : Accepted c.size c.bases ws left
      a = accepted c.size c.bases ws left ok

      same : (ws : List ℕ) → 2 ≤ length ws → fields (holding c ws 0) ≡ command_fields (get_or ws 0 0) (get_or ws 1 0)
      same [] h = absurd (omega arith)
      same (v ∷ []) h = absurd (omega arith)
      same (v ∷ w ∷ ws) h = unfold holding room in refl

      go : (w : Bool) → eqb (fields (holding c ws 0)).code write.code ≡ w → length (cond w (stored (holding c ws 0) memory) memory) ≡ length memory
      go false e = refl
      go true e =
          let is : (command_fields (get_or ws 0 0) (get_or ws 1 0)).code ≡ write.code = ap (λ (f : Command). f.code) (sym (same ws a.long)) ∙ eqb-true _ _ e in
          let inside = write-inside c.size c.bases _ (token-passed c.size c.bases _ _ a.token).three is in
          let fits : word_place c.bases.write_base (fields (holding c ws 0)).sub_address + length (block (holding c ws 0)) ≤ length memory
          = rw (block-long ws few, same ws a.long, idle.lent) inside in
          stored-long ws fits

  ended-idle : (ws : List ℕ) (left : ℕ) → length ws ≤ 67 → Idle (card_ended c ws left) (memory_ended c memory ws left)
  unfolding card_ended memory_ended noted acted holding
  ended-idle ws left few = go (unheard ws left) (any_set (judged_by c ws left)) refl
    where
      ranged : (d : Card) → d.size ≡ c.size → d.module_state ≡ c.module_state → d.port.message ≡ emptied false → InRange d
      ranged d size state shut =
          unfold emptied in record { size = rw size idle.ranged.size; count = rw shut (lit≤ tt); module_state = rw state idle.ranged.module_state }

      go : (s v : Bool) → any_set (judged_by c ws left) ≡ v
          → Idle (cond s c (cond v (noted c (judged_by c ws left)) (card_acted c ws))) (cond s memory (cond v memory (memory_acted c memory ws)))
      go true v e = idle
      go false true e = record { ranged = ranged (noted c (judged_by c ws left)) refl refl refl; closed = refl; lent = idle.lent }
      go false false e =
          record { ranged = ranged (card_acted c ws) refl refl refl; closed = refl; lent = acted-long ws left few e ∙ idle.lent }

  -- the card and the memory after a line
  module _ (line : List Bool) where
    is-closed : Closed c memory (whole_words line) (bits_left line)
    unfolding bits_left
    is-closed = closed c memory idle (whole_words line) (bits_left line) (omega arith)

    pub card-heard : card_after_line c memory line ≡ card_ended c (take 67 (whole_words line)) (bits_left line)
    unfolding card_after_line listened
    card-heard = ap (λ (a : CardAfter). a.card) is-closed.card_is

    pub memory-heard : memory_after_line c memory line ≡ memory_ended c memory (take 67 (whole_words line)) (bits_left line)
    unfolding memory_after_line listened
    memory-heard = is-closed.memory_is

    pub refusals-heard : refusals_of c memory line ≡ []
    unfolding refusals_of listened listed
    refusals-heard = rw (is-closed.select_quiet, is-closed.words_quiet, is-closed.card_is)

    pub heard-idle : Idle (card_after_line c memory line) (memory_after_line c memory line)
    heard-idle = subst₂ Idle (sym card-heard) (sym memory-heard) (ended-idle (take 67 (whole_words line)) (bits_left line) (simp length-take (omega arith)))

-- ---- a message told of what the card is in

-- what a message made of a state, told of the card in it
unfoldable pub through : {S T : Type 0} → (S → T) → Heard S → Heard T
through f h = record { side = f h.side; memory = h.memory; sent = h.sent; refused = h.refused }
