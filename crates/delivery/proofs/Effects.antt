-- What READBACK, WRITE and CONFIG WRITE do to card and memory, and what any command leaves that comes undamaged.
-- Assumes nothing.
use Prim.Native.Nat.{ℕ, ◌*◌, ◌+◌, ◌/◌, ◌%◌, ◌≤◌}
use native.Mathlib.Omega.{arith}
use mathlib.Core.Path.{◌≡◌, refl, ap, ◌∙◌}
use mathlib.Core.Bool.{Bool, true}
use mathlib.Core.Logic.{◌⊎◌, inl, inr}
use mathlib.Core.List.{List, []}
use lib.Dec.{lit<}
use lib.ListN.{length}
use Rattle.bits.specs.Bits.{stream}
use Rattle.bits.specs.Buffers.{written}
use Rattle.bits.specs.Lines.{AreWords}
use Rattle.link.specs.Damage.{Damage, undamaged}
use Rattle.link.proofs.Laws.{none-flipped}
use Rattle.token.specs.Command.{command_token}
use Rattle.token.specs.Response.{clean}
use Rattle.token.specs.declared.command.Command.{Command}
use Rattle.token.proofs.CommandTrip.{command-fields}
use Rattle.card.specs.Release.{bases_of, bases_after, time_after, acted, stored}
use Rattle.card.specs.Whole.{card_after_line, heard}
use Rattle.card.specs.declared.Card.{Card}
use Rattle.card.proofs.Closed.{card_acted, memory_acted, acted-status, acted-last}
use Rattle.card.proofs.Holding.{Idle, room, holding}
use Rattle.controller.specs.Base.{base_command, base_block}
use Rattle.controller.specs.Builder.{is_reading, with_check_word, payload, message, block_fits}
use Rattle.controller.specs.Sure.{readback_command}
use Rattle.controller.proofs.MessageLaws.{payload-block}
use Rattle.delivery.specs.AnyCommand.{Still, with_base}
use Rattle.delivery.specs.Delivery.{target, Kept}
use Rattle.delivery.specs.Play.{crossed}
use Rattle.delivery.proofs.Accept.{Sendable}
use Rattle.delivery.proofs.Acts.{Took, card-acts, ended-took}
use Rattle.delivery.proofs.Built.{checked-front, sendable}
use Rattle.delivery.proofs.Ended.{Passes, sent, sent-ended}
use Rattle.delivery.proofs.Judged.{readback-fits, write_of, write-fits, base-fits}
use Rattle.delivery.proofs.Kept.{kept-trans}

-- ---- any command

module _ (t : Command) (block : List ℕ) (s : Sendable t (payload t block)) (c : Card) (memory : List ℕ) (idle : Idle c memory) where
  -- whatever befalls it, it has not acted, or acted once
  pub sent-took : (d : Damage) → Still true c memory (sent t block d c memory).side (sent t block d c memory).memory
      ⊎ Took true c memory t block (sent t block d c memory).side (sent t block d c memory).memory
  sent-took d = ended-took t block s idle.closed (sent-ended t block s c memory idle d)

  -- without damage a command whose token passes is accepted: the status is clean, and its token is the last
  pub undamaged-works : Passes t c → ((sent t block undamaged c memory).side.port.status ≡ clean) × ((sent t block undamaged c memory).side.port.last ≡ command_token t)
  unfolding sent crossed heard message
  undamaged-works ok =
      let is : (sent t block undamaged c memory).side ≡ card_acted c (message t block)
      = ap (card_after_line c memory) (none-flipped (stream 16 (message t block))) ∙ card-acts t block s c memory idle ok in
      (ap (λ (x : Card). x.port.status) is ∙ acted-status c (message t block), ap (λ (x : Card). x.port.last) is ∙ acted-last c _ _ (payload t block))

-- ---- READBACK

pub readback-sendable : Sendable readback_command (payload readback_command [])
unfolding is_reading block_fits AreWords
readback-sendable = sendable readback_command [] readback-fits (λ i. lit< tt) refl

abbrev pub readback_line : List Bool
readback_line = stream 16 (message readback_command [])

module _ (c : Card) (memory : List ℕ) (idle : Idle c memory) where
  readback-acted : Kept true c (card_acted c (message readback_command []))
  unfolding acted holding room message bases_after time_after
  readback-acted =
      rw (command-fields readback_command readback-fits) (record { size = refl; bases = refl; closed = refl; time = λ e. refl; stf = λ e. refl; module_state = λ e. refl })

  readback-stored : memory_acted c memory (message readback_command []) ≡ memory
  unfolding memory_acted holding room message
  readback-stored = rw (command-fields readback_command readback-fits)

  -- it changes nothing, damaged or not
  pub readback-still : (d : Damage) → Still true c memory (sent readback_command [] d c memory).side (sent readback_command [] d c memory).memory
  readback-still d = go (sent-took readback_command [] readback-sendable c memory idle d)
    where
      go : {c' : Card} {memory' : List ℕ} → Still true c memory c' memory' ⊎ Took true c memory readback_command [] c' memory' → Still true c memory c' memory'
      go (inl still) = still
      go {c'} (inr a) = (kept-trans c (card_acted c (message readback_command [])) c' readback-acted a.card, a.stores ∙ readback-stored)

-- ---- WRITE

module _ (sub : ℕ) (block : List ℕ) (n-fits : length block ≤ 63) (sub-fits : sub ≤ 255) (c : Card) where
  abbrev w : Command
  w = write_of (length block) sub

  pub write-acted : Kept true c (card_acted c (message w block))
  unfolding acted holding room message bases_after time_after
  write-acted =
      rw (command-fields w (write-fits (length block) sub n-fits sub-fits))
      (record { size = refl; bases = refl; closed = refl; time = λ e. refl; stf = λ e. refl; module_state = λ e. refl })

  pub write-stored : (memory : List ℕ) → memory_acted c memory (message w block) ≡ written memory (target c sub) block
  unfolding memory_acted stored holding room message is_reading
  write-stored memory = rw (command-fields w (write-fits (length block) sub n-fits sub-fits), payload-block w block refl, checked-front block _)

-- ---- CONFIG WRITE

module _ (base : ℕ) (c : Card) where
  -- the write base is this one
  pub base-acted : Kept true (with_base base c) (card_acted c (message base_command (base_block base)))
  unfolding acted holding room message payload is_reading with_check_word bases_after time_after
  base-acted =
      let value : base / 65536 * 65536 + base % 65536 ≡ base = omega arith in
      rw (command-fields base_command base-fits) (record {
        size = refl;
        bases = ap (λ (n : ℕ). bases_of n c.bases.read_base) value;
        closed = refl;
        time = λ e. refl;
        stf = λ e. refl;
        module_state = λ e. refl;
      })

  -- and the memory stays
  pub base-stored : (memory : List ℕ) → memory_acted c memory (message base_command (base_block base)) ≡ memory
  unfolding memory_acted holding room message
  base-stored memory = rw (command-fields base_command base-fits)
