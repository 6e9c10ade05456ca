-- A command acted twice is acted once, but for TICK; and where it acted, its token passes again.
-- Assumes nothing.
use Prim.Native.Nat.{ℕ, ◌+◌, ◌≤◌}
use native.Mathlib.Omega.{arith}
use mathlib.Core.Bool.{Bool, true, false, cond}
use mathlib.Core.List.{List, ◌++◌}
use mathlib.Core.Path.{◌≡◌, refl, sym, ap, ap₂, ◌∙◌}
use borrow.Author.Tests.{eqb-true, ne_eqb}
use lib.Dec.{eqb}
use lib.ListN.{length, take, drop, length-append, length-take}
use lib.Seq.{take_at, drop-append_seam, length-take-le, take-append-le}
use Rattle.bits.specs.Buffers.{written}
use Rattle.rules.specs.Rules.{reset, synch, tick, write, read, config_write, config_read}
use Rattle.token.specs.declared.command.Command.{Command}
use Rattle.token.proofs.CommandTrip.{command-fields}
use Rattle.judge.specs.Judge.{word_place, step3, token_status}
use Rattle.judge.specs.declared.Bases.{Bases}
use Rattle.judge.proofs.Laws.{token-passed, write-inside}
use Rattle.card.specs.Release.{bases_of, bases_after, time_after, acted, stored}
use Rattle.card.specs.declared.Card.{Card}
use Rattle.card.proofs.Closed.{card_acted, memory_acted}
use Rattle.card.proofs.Holding.{Idle, room, holding}
use Rattle.controller.specs.Builder.{payload, message}
use Rattle.delivery.specs.Delivery.{Kept}
use Rattle.delivery.proofs.Accept.{Sendable}
use Rattle.delivery.proofs.Acts.{Took, took-moved}
use Rattle.delivery.proofs.Ended.{Passes}
use Rattle.delivery.proofs.Kept.{kept-trans, kept-either}

-- ---- bases, time, memory

bases-twice : (b : Bases) (code v : ℕ) → bases_after (bases_after b code v) code v ≡ bases_after b code v
unfolding bases_after
bases-twice b code v = go (eqb code reset.code) (eqb code config_write.code) (eqb code config_read.code)
  where
    after : Bool → Bool → Bool → Bases → Bases
    after x y z d = cond x (bases_of 0 0) (cond y (bases_of v d.read_base) (cond z (bases_of d.write_base v) d))

    go : (x y z : Bool) → after x y z (after x y z b) ≡ after x y z b
    go true y z = refl
    go false true z = refl
    go false false true = refl
    go false false false = refl

time-twice : (x : ℕ) (f : Command) (v : ℕ) → (f.code ≡ tick.code → ⊥) → time_after (time_after x f v) f v ≡ time_after x f v
unfolding time_after
time-twice x f v other = rw (ne_eqb f.code tick.code other) (go (eqb f.code synch.code))
  where
    go : (b : Bool) → cond b v (cond b v x) ≡ cond b v x
    go true = refl
    go false = refl

-- putting a block twice is putting it once
pub written-twice : (memory : List ℕ) (place : ℕ) (block : List ℕ) → place + length block ≤ length memory
    → written (written memory place block) place block ≡ written memory place block
unfolding written
written-twice memory place block h =
    let front : length (take place memory) ≡ place = length-take-le place memory (omega arith) in
    let both : length (take place memory ++ block) ≡ place + length block = length-append (take place memory) block ∙ ap (λ (n : ℕ). n + length block) front in
    let rest : List ℕ = drop (place + length block) memory in
    ap₂ (λ (x y : List ℕ). (x ++ block) ++ y)
    (take-append-le place (take place memory ++ block) rest (omega arith) ∙ take_at (take place memory) block place front)
    (ap (λ (n : ℕ). drop n ((take place memory ++ block) ++ rest)) (sym both) ∙ drop-append_seam (take place memory ++ block) rest)

-- ---- a command

module _ (t : Command) (block : List ℕ) (s : Sendable t (payload t block)) where
  abbrev ws : List ℕ
  ws = message t block

  card-twice : (t.code ≡ tick.code → ⊥) → (c : Card) → Kept true (card_acted c ws) (card_acted (card_acted c ws) ws)
  unfolding acted holding room message
  card-twice other c =
      rw (command-fields t s.fits) (record {
        size = refl;
        bases = bases-twice c.bases t.code _;
        closed = refl;
        time = λ e. time-twice c.time t _ other;
        stf = λ e. refl;
        module_state = λ e. refl;
      })

  -- the block as the card holds it
  abbrev held : List ℕ
  held = take t.length (drop 2 (room ws))

  stores : (c : Card) (memory : List ℕ) → eqb t.code write.code ≡ true
      → memory_acted c memory ws ≡ written memory (word_place c.bases.write_base t.sub_address) held
  unfolding memory_acted stored holding room message
  stores c memory e = rw (command-fields t s.fits, e)

  leaves : (c : Card) (memory : List ℕ) → eqb t.code write.code ≡ false → memory_acted c memory ws ≡ memory
  unfolding memory_acted holding room message
  leaves c memory e = rw (command-fields t s.fits, e)

  -- the bases stay under WRITE
  bases-stay : (c : Card) → t.code ≡ write.code → (card_acted c ws).bases ≡ c.bases
  unfolding acted holding room message bases_after
  bases-stay c e = rw (command-fields t s.fits, e)

  memory-twice : (c : Card) (memory : List ℕ) → Idle c memory → Passes t c
      → memory_acted (card_acted c ws) (memory_acted c memory ws) ws ≡ memory_acted c memory ws
  memory-twice c memory idle ok = go (eqb t.code write.code) refl
    where
      go : (b : Bool) → eqb t.code write.code ≡ b → memory_acted (card_acted c ws) (memory_acted c memory ws) ws ≡ memory_acted c memory ws
      go false e = leaves (card_acted c ws) (memory_acted c memory ws) e
      go true e =
          let place : ℕ = word_place c.bases.write_base t.sub_address in
          let code : t.code ≡ write.code = eqb-true _ _ e in
          let inside : word_place c.bases.write_base t.sub_address + t.length ≤ c.size
          = write-inside c.size c.bases t (rw (command-fields t s.fits) at (token-passed c.size c.bases _ _ ok).three) code in
          let short : length held ≤ t.length = simp length-take (omega arith) in
          stores (card_acted c ws) (memory_acted c memory ws) e
          ∙ ap₂ (λ (m : List ℕ) (b : Bases). written m (word_place b.write_base t.sub_address) held) (stores c memory e) (bases-stay c code)
          ∙ written-twice memory place held (omega (arith, idle.lent))
          ∙ sym (stores c memory e)

  step3-twice : (size : ℕ) (b : Bases) (v : ℕ) → step3 size (bases_after b t.code v) t ≡ step3 size b t
  unfolding step3 bases_after
  step3-twice size b v = go (eqb t.code write.code) (eqb t.code read.code) refl refl
    where
      go : (x y : Bool) → eqb t.code write.code ≡ x → eqb t.code read.code ≡ y → step3 size (bases_after b t.code v) t ≡ step3 size b t
      go true y p q = rw (eqb-true t.code write.code p)
      go false true p q = rw (eqb-true t.code read.code q)
      go false false p q = rw (p, q)

  -- WRITE and READ move no base, and step 3 of the others looks at none
  pub passes-twice : (c : Card) → Passes t c → Passes t (card_acted c ws)
  unfolding acted holding room message token_status
  passes-twice c ok = rw (command-fields t s.fits, step3-twice) (rw (command-fields t s.fits) at ok)

  pub took-twice : {alone : Bool} {c c₁ c₂ : Card} {memory memory₁ memory₂ : List ℕ} → (t.code ≡ tick.code → ⊥) → Idle c memory
      → Took alone c memory t block c₁ memory₁ → Took alone c₁ memory₁ t block c₂ memory₂ → Took alone c memory t block c₂ memory₂
  took-twice {alone} {c} {c₁} {c₂} {memory} {memory₁} other idle a b =
      let then : Card = card_acted c ws in
      let moved : Took alone then memory₁ t block c₂ _ = took-moved t block then c₁ memory₁ memory₁ (a.card, refl) b in
      record {
        passed = a.passed;
        card = kept-trans then (card_acted then ws) c₂ (kept-either alone (card-twice other c)) moved.card;
        stores = moved.stores ∙ ap (λ (m : List ℕ). memory_acted then m ws) a.stores ∙ memory-twice c memory idle a.passed;
      }
