-- A command that the card takes acts once, whatever the command: what it makes of card and memory, by the card before.
-- Assumes nothing.
use Prim.Native.Nat.{ℕ, suc, ◌/◌}
use native.Mathlib.Omega.{arith}
use mathlib.Core.Path.{◌≡◌, refl, sym, ap, ap₂, ◌∙◌}
use mathlib.Core.Bool.{Bool, true, false, cond, ◌||◌}
use mathlib.Core.Logic.{◌⊎◌, inl, inr}
use mathlib.Core.List.{List, [], ◌∷◌, append-nil}
use borrow.Author.Tests.{ne_eqb}
use lib.Dec.{eqb, leb, lit≤}
use lib.ListN.{length}
use Rattle.bits.specs.Lines.{words, whole_words, bits_left}
use Rattle.bits.proofs.Lines.{length-stream, words-stream}
use Rattle.rules.specs.Rules.{synch, write, config_write, config_read}
use Rattle.token.specs.Command.{command_first, command_second}
use Rattle.token.specs.Response.{any_set}
use Rattle.token.specs.declared.command.Command.{Command}
use Rattle.token.specs.declared.response.Status.{Status}
use Rattle.token.proofs.CommandTrip.{command-fields}
use Rattle.judge.specs.Judge.{is_checked}
use Rattle.judge.proofs.Laws.{never}
use Rattle.card.specs.Card.{module_set}
use Rattle.card.specs.Release.{bases_after, time_after, acted, noted, stored}
use Rattle.card.specs.State.{emptied, with_module}
use Rattle.card.specs.Whole.{card_after_line, memory_after_line}
use Rattle.card.specs.declared.Card.{Card}
use Rattle.card.proofs.Closed.{judged_by, unheard, card_acted, memory_acted, card_ended, memory_ended, acted-status}
use Rattle.card.proofs.Holding.{Idle, room, holding}
use Rattle.controller.specs.Builder.{payload, message}
use Rattle.delivery.specs.AnyCommand.{line_of, Accepts, Acted, Still}
use Rattle.delivery.specs.Delivery.{Kept}
use Rattle.delivery.specs.Play.{ModuleCall, settings}
use Rattle.delivery.proofs.Accept.{Whole, whole, accepts, Sendable}
use Rattle.delivery.proofs.Ended.{Passes, Ended, ignored, refused, taken, built-long, card-held, memory-held}
use Rattle.delivery.proofs.Kept.{kept-self, kept-trans, kept-either, Shut}
use Rattle.delivery.proofs.Settings.{after_calls, Aside, set-shut, calls-kept, set-closed}

-- ---- a payload that is not looked at does not matter

record Unchecked (code : ℕ) : Type 0 where
  writes : eqb code write.code ≡ false
  synchs : eqb code synch.code ≡ false
  sets_write : eqb code config_write.code ≡ false
  sets_read : eqb code config_read.code ≡ false

unchecked : (code : ℕ) → is_checked code ≡ false → Unchecked code
unfolding is_checked
unchecked code h =
    go (eqb code write.code) (eqb code synch.code) (eqb code config_write.code) (eqb code config_read.code) refl refl refl refl h
  where
    go : (a b c d : Bool) → eqb code write.code ≡ a → eqb code synch.code ≡ b → eqb code config_write.code ≡ c → eqb code config_read.code ≡ d
        → (a || b || c || d) ≡ false → Unchecked code
    go false false false false p q r s h = record { writes = p; synchs = q; sets_write = r; sets_read = s }
    go false false false true p q r s h = never h
    go false false true d p q r s h = never h
    go false true c d p q r s h = never h
    go true b c d p q r s h = never h

-- ---- a command taken

module _ (t : Command) (block : List ℕ) (s : Sendable t (payload t block)) where
  -- the words that the card took
  abbrev took : List ℕ → List ℕ
  took ws = command_first t ∷ command_second t ∷ ws

  -- those that were sent, or others that are not looked at
  abbrev Like : List ℕ → Type 0
  Like ws = is_checked t.code ≡ true → ws ≡ payload t block

  same-card : (c : Card) (ws : List ℕ) → Like ws → card_acted c (took ws) ≡ card_acted c (message t block)
  unfolding message
  same-card c ws like = go (is_checked t.code) refl
    where
      go : (b : Bool) → is_checked t.code ≡ b → card_acted c (took ws) ≡ card_acted c (took (payload t block))
      go true e = ap (λ (l : List ℕ). card_acted c (took l)) (like e)
      go false e =
          let u : Unchecked t.code = unchecked t.code e in
          unfold acted holding room bases_after time_after in rw (command-fields t s.fits, u.synchs, u.sets_write, u.sets_read)

  same-memory : (c : Card) (memory : List ℕ) (ws : List ℕ) → Like ws → memory_acted c memory (took ws) ≡ memory_acted c memory (message t block)
  unfolding message
  same-memory c memory ws like = go (is_checked t.code) refl
    where
      go : (b : Bool) → is_checked t.code ≡ b → memory_acted c memory (took ws) ≡ memory_acted c memory (took (payload t block))
      go true e = ap (λ (l : List ℕ). memory_acted c memory (took l)) (like e)
      go false e =
          let u : Unchecked t.code = unchecked t.code e in
          unfold memory_acted holding room in rw (command-fields t s.fits, u.writes)

  -- ---- the message heard whole

  module _ (c : Card) (memory : List ℕ) (idle : Idle c memory) where
    abbrev line : List Bool
    line = line_of t block

    all-words : whole_words line ≡ message t block
    unfolding whole_words message
    all-words =
        let count : length line / 16 ≡ length (message t block) = omega (arith, length-stream (message t block)) in
        ap₂ words count (sym (append-nil line)) ∙ words-stream (message t block) [] s.below

    none-left : bits_left line ≡ 0
    unfolding bits_left
    none-left = omega (arith, length-stream (message t block))

    heard-some : unheard (message t block) 0 ≡ false
    unfolding unheard message
    heard-some = rw (ne_eqb (suc (suc (length (payload t block)))) 0 (λ e. omega arith))

    abbrev judged : Status
    judged = judged_by c (message t block) 0

    whole-card : card_after_line c memory line ≡ cond (any_set judged) (noted c judged) (card_acted c (message t block))
    unfolding card_ended
    whole-card = card-held c memory idle line (built-long t block s c memory idle) ∙ ap₂ (card_ended c) all-words none-left ∙ rw heard-some

    whole-memory : memory_after_line c memory line ≡ cond (any_set judged) memory (memory_acted c memory (message t block))
    unfolding memory_ended
    whole-memory = memory-held c memory idle line (built-long t block s c memory idle) ∙ ap₂ (memory_ended c memory) all-words none-left ∙ rw heard-some

    judged-clean : Passes t c → any_set judged ≡ false
    unfolding message
    judged-clean ok = accepts t (payload t block) s c.size c.bases ok

    pub card-acts : Passes t c → card_after_line c memory line ≡ card_acted c (message t block)
    card-acts ok = whole-card ∙ rw (judged-clean ok)

    memory-acts : Passes t c → memory_after_line c memory line ≡ memory_acted c memory (message t block)
    memory-acts ok = whole-memory ∙ rw (judged-clean ok)

    -- it is accepted where its token passes
    pub passes-accepts : Passes t c → Accepts c memory t block
    unfolding any_set
    passes-accepts ok = ap (λ (x : Card). any_set x.port.status) (card-acts ok) ∙ rw (acted-status c (message t block))

    -- and only there
    pub accepts-passes : Accepts c memory t block → Passes t c
    unfolding noted message
    accepts-passes h = go (any_set judged) refl (sym (ap (λ (x : Card). any_set x.port.status) whole-card) ∙ h)
      where
        go : (b : Bool) → any_set (judged_by c (message t block) 0) ≡ b
            → any_set (cond b (noted c (judged_by c (message t block) 0)) (card_acted c (message t block))).port.status ≡ false
            → Passes t c
        go true e h = never (sym e ∙ h)
        go false e h = token (whole c.size c.bases (message t block) 0 e)
          where
            token : Whole c.size c.bases (message t block) 0 → Passes t c
            token w =
                let one : w.first ≡ command_first t = let e = w.are in cc in
                let two : w.second ≡ command_second t = let e = w.are in cc in
                rw (one, two) at w.passes

-- ---- acted once, by the closed form

pub record Took (alone : Bool) (c : Card) (memory : List ℕ) (t : Command) (block : List ℕ) (c' : Card) (memory' : List ℕ) : Type 0 where
  pub passed : Passes t c
  pub card : Kept alone (card_acted c (message t block)) c'
  pub stores : memory' ≡ memory_acted c memory (message t block)

module _ (t : Command) (block : List ℕ) (s : Sendable t (payload t block)) {c : Card} {memory : List ℕ} {c' : Card} {memory' : List ℕ} where
  pub took-as : (ws : List ℕ) → Passes t c → (is_checked t.code ≡ true → ws ≡ payload t block)
      → c' ≡ card_acted c (command_first t ∷ command_second t ∷ ws) → memory' ≡ memory_acted c memory (command_first t ∷ command_second t ∷ ws)
      → Took true c memory t block c' memory'
  unfolding acted
  took-as ws j like p q =
      record {
        passed = j;
        card = rw (p ∙ same-card t block s c ws like) (kept-self (card_acted c (message t block)) refl);
        stores = q ∙ same-memory t block s c memory ws like;
      }

  -- a damaged command has not acted, or acted once
  pub ended-took : c.port.message ≡ emptied false → {line : List Bool} → Ended t (payload t block) c memory line c' memory'
      → Still true c memory c' memory' ⊎ Took true c memory t block c' memory'
  unfolding noted
  ended-took shut (ignored e p q) = inl (rw p (kept-self c shut), q)
  ended-took shut (refused e p q) = inl (rw p (record { size = refl; bases = refl; closed = refl; time = λ e. refl; stf = λ e. refl; module_state = λ e. refl }), q)
  ended-took shut (taken ws j like p q) = inr (took-as ws j like p q)

  -- in the words of the specification
  pub took-acted : {alone : Bool} → Idle c memory → Took alone c memory t block c' memory' → Acted alone c memory t block c' memory'
  took-acted idle k =
      record {
        accepted = passes-accepts t block s c memory idle k.passed;
        card = rw (card-acts t block s c memory idle k.passed) k.card;
        stored = k.stores ∙ sym (memory-acts t block s c memory idle k.passed);
      }

  pub acted-took : {alone : Bool} → Idle c memory → Acted alone c memory t block c' memory' → Took alone c memory t block c' memory'
  acted-took idle a =
      let ok : Passes t c = accepts-passes t block s c memory idle a.accepted in
      record {
        passed = ok;
        card = rw (card-acts t block s c memory idle ok) at a.card;
        stores = a.stored ∙ memory-acts t block s c memory idle ok;
      }

-- ---- told of the card before, of which nothing but status and last token was changed since, and of the card afterwards

module _ (t : Command) (block : List ℕ) where
  -- what a command makes of a card depends on that card, size by size and base by base
  acted-kept : {alone : Bool} (c c₁ : Card) → Kept alone c c₁ → Kept alone (card_acted c (message t block)) (card_acted c₁ (message t block))
  unfolding acted holding
  acted-kept c c₁ k =
      record {
        size = k.size;
        bases = rw k.bases;
        closed = refl;
        time = λ e. rw (k.time e);
        stf = k.stf;
        module_state = k.module_state;
      }

  pub acted-aside : {c c₁ : Card} → Aside c c₁ → Aside (card_acted c (message t block)) (card_acted c₁ (message t block))
  unfolding acted holding
  acted-aside k = record { size = k.size; bases = rw k.bases; port = refl }

  pub stored-moved : (c c₁ : Card) (memory : List ℕ) → c₁.bases ≡ c.bases → memory_acted c₁ memory (message t block) ≡ memory_acted c memory (message t block)
  unfolding memory_acted stored holding
  stored-moved c c₁ memory e = rw e

  pub took-moved : {alone : Bool} (c c₁ : Card) (memory memory₁ : List ℕ) {c' : Card} {memory' : List ℕ} → Still alone c memory c₁ memory₁
      → Took alone c₁ memory₁ t block c' memory' → Took alone c memory t block c' memory'
  took-moved c c₁ memory memory₁ {c'} (k, m) a =
      record {
        passed = rw (k.size, k.bases) at a.passed;
        card = kept-trans (card_acted c (message t block)) (card_acted c₁ (message t block)) c' (acted-kept c c₁ k) a.card;
        stores = a.stores ∙ ap (λ (x : List ℕ). memory_acted c₁ x (message t block)) m ∙ stored-moved c c₁ memory k.bases;
      }

  pub took-later : {alone : Bool} {c : Card} {memory : List ℕ} (c' c'' : Card) (memory' memory'' : List ℕ) → Still alone c' memory' c'' memory''
      → Took alone c memory t block c' memory' → Took alone c memory t block c'' memory''
  took-later {alone} {c} c' c'' memory' memory'' (k, m) a =
      record { passed = a.passed; card = kept-trans (card_acted c (message t block)) c' c'' a.card k; stores = m ∙ a.stores }

  pub took-either : (alone : Bool) {c : Card} {memory : List ℕ} {c' : Card} {memory' : List ℕ}
      → Took true c memory t block c' memory' → Took alone c memory t block c' memory'
  took-either alone a = record { passed = a.passed; card = kept-either alone a.card; stores = a.stores }

  -- ---- the device's calls behind a command could as well come before it

  acted-shut : {c : Card} → Shut c → Shut (card_acted c (message t block))
  unfolding acted holding emptied
  acted-shut s =
      record { ranged = record { size = s.ranged.size; count = lit≤ tt; module_state = s.ranged.module_state }; closed = refl }

  set-acted : {c : Card} → Shut c → (stf : Bool) (state : ℕ)
      → (module_set (card_acted c (message t block)) stf state).card ≡ card_acted (module_set c stf state).card (message t block)
  set-acted {c} s stf state =
      rw (set-closed (acted-shut s) stf state, set-closed s stf state) (go (leb state 15))
    where
      go : (b : Bool) → cond b (with_module (card_acted c (message t block)) stf state) (card_acted c (message t block))
          ≡ card_acted (cond b (with_module c stf state) c) (message t block)
      go true = unfold acted holding in refl
      go false = refl

  calls-acted : {c : Card} → Shut c → (calls : List ModuleCall) → after_calls calls (card_acted c (message t block)) ≡ card_acted (after_calls calls c) (message t block)
  unfolding settings
  calls-acted s [] = refl
  calls-acted {c = c} s (m ∷ calls) = ap (after_calls calls) (set-acted s m.stf m.state) ∙ calls-acted {c = (module_set c m.stf m.state).card} (set-shut s m.stf m.state) calls

  pub acted-called : {c c' : Card} → Shut c → (calls : List ModuleCall)
      → Kept true (card_acted c (message t block)) c' → Kept true (card_acted (after_calls calls c) (message t block)) (after_calls calls c')
  acted-called s calls k = rw (← calls-acted s calls) (calls-kept (acted-shut s) k calls)
