-- Demand 3: what the sure write's verdict means, however its three messages are damaged.
--
-- It is stated over the definitions that the contracts of card and controller cite, so over what their functions compute:
--   the card        `powered`, `selected`, `module_set`, `told`, `took`, `released`, `memory_after` (crate card, Whole.antt, puts them together to
--                   whole messages),
--   at the pins     `powered_pins`, `selected_pins`, `module_pins`, `clocked`, `released_pins`, `memory_after_pins` (crate pins, AtPins.antt),
--   the controller  `started`, `asked` with `asked_buffer`, `given`, `verdict_of`,
--   the damage      `unseen`, `cut`, `bits_flipped` (crate link, Damage.antt).
-- The proofs are `delivery`, `undamaged-delivery`, `odd-base`, and `delivery-at-pins`, `undamaged-at-pins`, `odd-base-at-pins` of
-- proofs/Theorem.antt.
use Rattle.std.specs.Prelude.{ℕ, ◌+◌, ◌≤◌, Bool, true, false, List, [], ◌⊎◌, ◌≡◌, length}
use Rattle.bits.specs.Buffers.{written}
use Rattle.bits.specs.Lines.{AreWords}
use Rattle.rules.specs.Rules.{message_words, readback}
use Rattle.judge.specs.Judge.{word_place, is_even}
use Rattle.link.specs.Damage.{undamaged}
use Rattle.card.specs.Card.{module_set}
use Rattle.card.specs.Run.{Run}
use Rattle.card.specs.State.{emptied}
use Rattle.card.specs.Whole.{listed, Hears, heard}
use Rattle.card.specs.declared.Card.{Card}
use Rattle.pins.specs.AtPins.{heard_at_pins}
use Rattle.pins.specs.Pins.{module_pins}
use Rattle.pins.specs.Run.{RunPins}
use Rattle.pins.specs.declared.Pins.{Pins}
use Rattle.controller.specs.Sure.{started, verdict_of}
use Rattle.delivery.specs.Play.{Sets, settings, Going, Buffers, Damages, Calls, play}

-- ---- the card's side of the line

-- its states, how a state hears a message and takes a module-state call, the card that is in a state, the states that were run from power-up,
-- and whether the controller is alone with the card: another port may be busy at it (crate beside)
pub record Side : Type 1 where
  pub State : Type 0
  pub hears : Hears State
  pub sets : Sets State
  pub card : State → Card
  pub Runs : State → Type 0
  pub alone : Bool

-- the card alone, word by word
abbrev pub in_words : Side
in_words = record { State = Card; hears = heard; sets = λ c stf state. (module_set c stf state).card; card = λ c. c; Runs = Run; alone = true }

-- the card behind its shifter, bit by bit
abbrev pub at_pins : Side
at_pins = record {
  State = Pins;
  hears = heard_at_pins;
  sets = λ p stf state. (module_pins p stf state).pins;
  card = λ p. p.card;
  Runs = RunPins;
  alone = true;
}

-- ---- the block and the memory

-- the place of the block's first word: write base / 2 + sub-address
abbrev pub target : Card → ℕ → ℕ
target c sub = word_place c.bases.write_base sub

-- the block is inside the card's memory: write base / 2 + sub-address + length is at most the memory size, for length 0 too
abbrev pub Inside : Card → ℕ → List ℕ → Type 0
Inside c sub block = target c sub + length block ≤ c.size

-- the write base is even
abbrev pub EvenBase : Card → Type 0
EvenBase c = is_even c.bases.write_base ≡ true

-- the write base is even, the block is inside, and the memory is the old one with the block written into it
abbrev pub BlockWritten : Card → List ℕ → ℕ → List ℕ → List ℕ → Type 0
BlockWritten c memory sub block later = EvenBase c × Inside c sub block × (later ≡ written memory (target c sub) block)

-- ---- the sure write

-- there is room for the three messages
pub record Room (block : List ℕ) (b : Buffers) : Type 0 where
  pub first : message_words readback.most_length ≤ length b.first
  pub second : message_words (length block) ≤ length b.second
  pub third : message_words readback.most_length ≤ length b.third

-- none of the three messages is damaged
abbrev pub no_damage : Damages
no_damage = record { first = undamaged; second = undamaged; third = undamaged }

-- the sure write of a block to a sub-address, from a state of a card's side and the card's memory
abbrev pub sure_write : (side : Side) → side.State → List ℕ → ℕ → List ℕ → Buffers → Damages → Calls → Going side.State
sure_write side s memory sub block b d calls =
    let start = started (length block) sub in
    play side.hears side.sets block b d calls
    (record { state = start.state; side = s; memory = memory; calls = []; refused = listed start.refusal })

-- the verdict that it ends with
abbrev pub SaysDone : {S : Type 0} → Going S → Type 0
SaysDone end = (verdict_of end.state).done ≡ true

abbrev pub SaysUnsure : {S : Type 0} → Going S → Type 0
SaysUnsure end = (verdict_of end.state).unsure ≡ true

-- ---- what it means

-- nothing of the card but its status bits and last token is changed, and no message is open. Where the controller is not alone, nothing is said of
-- the time, which another port may move, nor of STF and module state, which the device may set while neither port is selected.
pub record Kept (alone : Bool) (c c' : Card) : Type 0 where
  pub size : c'.size ≡ c.size
  pub bases : c'.bases ≡ c.bases
  pub closed : c'.port.message ≡ emptied false
  pub time : alone ≡ true → c'.time ≡ c.time
  pub stf : alone ≡ true → c'.stf ≡ c.stf
  pub module_state : alone ≡ true → c'.module_state ≡ c.module_state

pub record Meaning (side : Side) (s : side.State) (memory : List ℕ) (sub : ℕ) (block : List ℕ) (end : Going side.State) : Type 0 where
  -- Done: the write base was even, the block inside, and it is written
  pub done : SaysDone end → BlockWritten (side.card s) memory sub block end.memory
  -- Unsure: the memory is as it was; or, as for Done, the block is written
  pub unsure : SaysUnsure end → (end.memory ≡ memory) ⊎ BlockWritten (side.card s) memory sub block end.memory
  -- there is a verdict, and neither card nor controller refused a call
  pub ends : SaysDone end ⊎ SaysUnsure end
  pub unrefused : end.refused ≡ []
  -- the card is kept, with STF and module state as the device's own calls leave them; and it is one that was run from power-up, so that the next
  -- sure write can follow
  pub kept : Kept side.alone (side.card (settings side.sets end.calls s)) (side.card end.side)
  pub runs : side.Runs end.side

-- every card that was run from power-up and has no message open, its memory, a block of up to 63 words for a sub-address up to 255,
-- and any buffers with room
pub record Premises (side : Side) (s : side.State) (memory : List ℕ) (sub : ℕ) (block : List ℕ) (b : Buffers) : Type 0 where
  pub run : side.Runs s
  pub idle : (side.card s).port.message.opened ≡ false
  pub lent : length memory ≡ (side.card s).size
  pub sub_in_range : sub ≤ 255
  pub short : length block ≤ 63
  pub words : AreWords block
  pub room : Room block b

-- whatever befalls the three messages, and whatever the device sets between them, the verdict has its meaning
abbrev pub Delivery : Side → Type 0
Delivery side = (s : side.State) (memory : List ℕ) (sub : ℕ) (block : List ℕ) (b : Buffers) → Premises side s memory sub block b
    → (d : Damages) (calls : Calls) → Meaning side s memory sub block (sure_write side s memory sub block b d calls)

-- and with no damage it is Done, where the write base is even and the block inside
abbrev pub Undamaged : Side → Type 0
Undamaged side = (s : side.State) (memory : List ℕ) (sub : ℕ) (block : List ℕ) (b : Buffers) → Premises side s memory sub block b
    → EvenBase (side.card s) → Inside (side.card s) sub block
    → (calls : Calls) → SaysDone (sure_write side s memory sub block b no_damage calls)

-- an odd write base is never Done: it is Unsure, and the memory is as it was
pub record NeverDone {S : Type 0} (memory : List ℕ) (end : Going S) : Type 0 where
  pub not_done : SaysDone end → ⊥
  pub unsure : SaysUnsure end
  pub unwritten : end.memory ≡ memory

abbrev pub OddBase : Side → Type 0
OddBase side = (s : side.State) (memory : List ℕ) (sub : ℕ) (block : List ℕ) (b : Buffers) → Premises side s memory sub block b
    → is_even (side.card s).bases.write_base ≡ false
    → (d : Damages) (calls : Calls) → NeverDone memory (sure_write side s memory sub block b d calls)
