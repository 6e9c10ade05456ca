-- The messages to one card of a unit: one message is a leg of the stage's command, and the messages of a stage are that command between two
-- READBACKs. The other cards and their records stay.
-- Assumes nothing.
use Prim.Native.Nat.{ℕ, suc, ◌+◌, ◌≤◌}
use native.Mathlib.Omega.{arith}
use mathlib.Core.Path.{◌≡◌, refl, sym, ap, ◌∙◌}
use mathlib.Core.Bool.{Bool, true, false, cond}
use mathlib.Core.Logic.{◌⊎◌, inl, inr}
use mathlib.Core.List.{List, [], ◌∷◌, ◌++◌, append-nil, append_assoc}
use lib.Dec.{eqb}
use lib.ListN.{length, drop}
use lib.Seq.{take_at, drop_at, set_at, get_or_at}
use Rattle.bits.specs.Bits.{stream}
use Rattle.bits.specs.Lines.{words}
use Rattle.bits.proofs.Lines.{length-words}
use Rattle.rules.specs.Refusals as refusal
use Rattle.rules.specs.Rules.{message_words}
use Rattle.token.specs.declared.command.Command.{Command}
use Rattle.card.specs.Whole.{listed}
use Rattle.controller.specs.Builder.{message}
use Rattle.controller.specs.Sure.{passes, turn_after}
use Rattle.controller.specs.declared.sure.Verdict.{Verdict}
use Rattle.loader.specs.Loader.{stage_command, stage_block, card_now, all_over, load_turn, moved, noted}
use Rattle.loader.specs.declared.Load.{Load}
use Rattle.loader.specs.declared.Load.TheVariants.{NotYet}
use Rattle.loader.specs.declared.Loader.{Loader}
use Rattle.loader.proofs.LoadLaws.{Takes, takes-first, takes-middle, takes-last, serving-turn, same-command, asked-at, words-asked, given-at}
use Rattle.loader.proofs.StateLaws.{Serving, serving-goes, serving-in-range}
use Rattle.listed.specs.Listed.{no_record, records_given}
use Rattle.listed.specs.declared.CardRecord.{CardRecord}
use Rattle.delivery.specs.AnyCommand.{Fates, Course, leg, legs, sure_command}
use Rattle.delivery.specs.Delivery.{Side}
use Rattle.delivery.specs.Play.{ModuleCall, Crossed, crossed, settings}
use Rattle.loading.specs.Loading.{longest, Slot, Unit, Passage, Passages, verdict_at, load_words, served, unit_round}
use Rattle.loading.proofs.Reach.{Reaches, reached, from, to, then, one}
use Rattle.loading.proofs.Blocks.{readback-room, stage-room}

-- ---- a card among others

-- its number, the other slots and records, and its size
pub record Around (S : Type 0) : Type 0 where
  pub number : ℕ
  pub before : List (Slot S)
  pub behind : List (Slot S)
  pub records_before : List CardRecord
  pub records_behind : List CardRecord
  pub size : ℕ

abbrev pub records_of : {S : Type 0} → Around S → Load → List CardRecord
records_of o load = o.records_before ++ (record { size = o.size; verdict = load } ∷ o.records_behind)

abbrev pub unit_of : {S : Type 0} → Around S → Loader → Load → Slot S → List ℕ → Unit S
unit_of o s load slot refused = record { state = s; records = records_of o load; slots = o.before ++ (slot ∷ o.behind); refused = refused }

-- what is known of the card from the stages before
pub record Past : Type 0 where
  pub verdicts : List Verdict
  pub calls : List ModuleCall
  pub sent : ℕ

abbrev pub sent_to : Past → ℕ → Past
sent_to p n = record { verdicts = p.verdicts; calls = p.calls; sent = n }

abbrev pub slot_of : {S : Type 0} → Past → List Verdict → Course S → Slot S
slot_of p verdicts g = record { side = g.side; memory = g.memory; calls = p.calls ++ g.calls; verdicts = verdicts; sent = p.sent }

-- where the unit stands when the stage's command of a card stands at a turn
unfoldable pub settled : {S : Type 0} → Around S → Loader → Past → Course S → Unit S
settled o s p g = unit_of o (moved s g.turn) (noted s g.turn) (slot_of p (p.verdicts ++ verdict_at g.turn) g) g.refused

-- and when the turn is to come
abbrev pub waits : {S : Type 0} → Around S → Loader → Past → Course S → Unit S
waits o s p g = unit_of o (load_turn s g.turn) NotYet (slot_of p p.verdicts g) g.refused

abbrev pub at : {S : Type 0} → ℕ → Course S → Course S
at turn g = record { turn = turn; side = g.side; memory = g.memory; calls = g.calls; refused = g.refused }

-- the slots and records before are as many as the card's number, and the loader is at this card and knows the number of records
pub record Placed {S : Type 0} (o : Around S) (s : Loader) : Type 0 where
  pub slots_before : length o.before ≡ o.number
  pub records_before : length o.records_before ≡ o.number
  pub numbered : s.card ≡ o.number
  pub counted : length (records_of o NotYet) ≡ s.cards

-- what befalls three messages of a card, from some number on
abbrev pub fates_from : Passages → ℕ → ℕ → Fates
fates_from passages i n = record { first = (passages i n).fate; second = (passages i (suc n)).fate; third = (passages i (suc (suc n))).fate }

-- the messages of a stage: at most m, and some number of them
pub record Staged (side : Side) (table : List ℕ) (passages : Passages) (o : Around side.State) (s : Loader) (p : Past) (m : ℕ) (u : Unit side.State) (g : Course side.State) : Type 0 where
  pub count : ℕ
  pub reaches : Reaches side table passages m u (settled o s (sent_to p count) g)

module _ (side : Side) (table : List ℕ) (passages : Passages) (lent : (i n : ℕ) → longest (length table) ≤ length (passages i n).buffer)
    (o : Around side.State) (s : Loader) (v : Serving s) (same : length table ≡ s.length) (q : Placed o s) where
  abbrev C : Type 0
  C = Course side.State

  -- ---- one message

  -- the card is to be selected, and not all is over
  now-at : (turn : ℕ) → turn ≤ 5 → card_now (load_turn s turn) ≡ record { refusal = refusal.none; card = s.card }
  unfolding card_now
  now-at turn early =
      let at_turn : Serving (load_turn s turn) = serving-turn s turn v early in rw (serving-in-range _ at_turn, serving-goes _ at_turn)

  going-at : (turn : ℕ) → turn ≤ 5 → (all_over (load_turn s turn)).over ≡ false
  unfolding all_over
  going-at turn early =
      let at_turn : Serving (load_turn s turn) = serving-turn s turn v early in rw (serving-in-range _ at_turn, serving-goes _ at_turn)

  module _ {turn : ℕ} {t : Command} {block : List ℕ} (k : Takes s table turn t block) (long : message_words t.length ≤ longest (length table)) (p : Past) (g : C) where
    abbrev slot : Slot side.State
    slot = slot_of p p.verdicts g

    abbrev unit : Unit side.State
    unit = waits o s p (at turn g)

    abbrev next : C
    next = leg side.hears side.sets (stage_command s) block (passages o.number p.sent).fate (at turn g)

    -- it is this card's
    chosen : unit_round side table passages unit ≡ served side table passages unit o.number (slot ∷ o.behind)
    unfolding unit_round
    chosen =
        rw (now-at turn (omega (arith, k.early)))
        (ap (λ (i : ℕ). served side table passages unit i (drop i unit.slots)) q.numbered
        ∙ ap (served side table passages unit o.number) (drop_at o.before (slot ∷ o.behind) o.number q.slots_before))

    records-at : (ws : List ℕ) → length ws ≡ message_words t.length
        → records_given (records_of o NotYet) (load_turn s (turn + 1)) ws ≡ records_of o (noted s (turn_after (stage_command s) (turn + 1) ws))
    unfolding records_given
    records-at ws n =
        rw (given-at s v table turn t block k (length (records_of o NotYet)) ws q.counted n, q.numbered)
        (rw (get_or_at o.records_before (record { size = o.size; verdict = NotYet }) o.records_behind no_record o.number q.records_before)
        (set_at o.records_before _ o.records_behind _ o.number q.records_before))

    abbrev passage : Passage
    passage = passages o.number p.sent

    abbrev there : Crossed side.State
    there =
        crossed side.hears passage.fate.damage (settings side.sets passage.fate.calls g.side) g.memory (stream 16 (message t block))

    abbrev got : List ℕ
    got = words (message_words t.length) there.got

    room : message_words t.length ≤ length passage.buffer
    room = omega (arith, long, lent o.number p.sent)

    line-is : load_words (load_turn s turn) table passage.buffer ≡ message t block
    unfolding load_words
    line-is = words-asked s v table turn t block k same passage.buffer room

    served-at : served side table passages unit o.number (slot ∷ o.behind) ≡ settled o s (sent_to p (suc p.sent)) next
    unfolding served leg listed settled
    served-at =
        rw (asked-at s v table turn t block k same passage.buffer room, line-is, k.here)
        (rw (given-at s v table turn t block k (length (records_of o NotYet)) got q.counted (length-words _ _), records-at got (length-words _ _), same-command s (turn + 1))
        (rw (
          take_at o.before (slot ∷ o.behind) o.number q.slots_before,
          append-nil g.refused,
          append-nil (g.refused ++ there.refused),
          append_assoc p.calls g.calls passage.fate.calls,
        )))

    -- the card's next message, at its turn
    message-at : Reaches side table passages 1 unit (settled o s (sent_to p (suc p.sent)) next)
    message-at =
        one side table passages unit _ (going-at turn (omega (arith, k.early))) (chosen ∙ served-at)

  sends : {turn : ℕ} {t : Command} {block : List ℕ} → Takes s table turn t block → message_words t.length ≤ longest (length table) → (p : Past) (g : C) → g.turn ≡ turn
      → Reaches side table passages 1 (waits o s p g)
      (settled o s (sent_to p (suc p.sent)) (leg side.hears side.sets (stage_command s) block (passages o.number p.sent).fate g))
  sends {turn} {t} {block} k long p g e = go g.turn e
    where
      go : (x : ℕ) → x ≡ turn
          → Reaches side table passages 1 (waits o s p (at x g))
          (settled o s (sent_to p (suc p.sent)) (leg side.hears side.sets (stage_command s) block (passages o.number p.sent).fate (at x g)))
      go x e = rw e (message-at k long p g)

  -- in the middle of a stage there is no verdict
  settled-on : (p : Past) (g : C) → (g.turn ≡ 2) ⊎ (g.turn ≡ 4) → settled o s p g ≡ waits o s p g
  unfolding settled moved noted verdict_at
  settled-on p g (inl e) = rw (e, append-nil p.verdicts)
  settled-on p g (inr e) = rw (e, append-nil p.verdicts)

  -- ---- the messages of a stage

  module _ (p : Past) (x : side.State) (memory : List ℕ) where
    abbrev n : ℕ
    n = p.sent

    abbrev start : C
    start = record { turn = 0; side = x; memory = memory; calls = []; refused = [] }

    abbrev fates : Fates
    fates = fates_from passages o.number n

    abbrev first : C
    first = leg side.hears side.sets (stage_command s) [] fates.first start

    first-turn : (first.turn ≡ 2) ⊎ (first.turn ≡ 7)
    unfolding leg turn_after
    first-turn = go (passes _)
      where
        go : (a : Bool) → (let m : ℕ = cond a 2 7 in (m ≡ 2) ⊎ (m ≡ 7))
        go true = inl refl
        go false = inr refl

    abbrev second : C → C
    second g = leg side.hears side.sets (stage_command s) (stage_block s table) fates.second g

    abbrev third : C → C
    third g = leg side.hears side.sets (stage_command s) [] fates.third (second g)

    second-turn : (g : C) → g.turn ≡ 2 → (second g).turn ≡ 4
    unfolding leg turn_after
    second-turn g e = rw e

    -- after the first message: it was Unsure at once, or two more follow
    abbrev all : C → C
    all g = cond (eqb g.turn 7) g (third g)

    two : (g : C) → (g.turn ≡ 2) ⊎ (g.turn ≡ 7) → Staged side table passages o s p 2 (settled o s (sent_to p (suc n)) g) (all g)
    two g (inr e) =
        let none_more : all g ≡ g = rw e in
        record { count = suc n; reaches = reached side table passages 2 (ap (settled o s (sent_to p (suc n))) (sym none_more)) }
    two g (inl e) =
        let more : all g ≡ third g = rw e in
        let p₁ : Past = sent_to p (suc n) in
        let p₂ : Past = sent_to p (suc (suc n)) in
        record {
          count = suc (suc (suc n));
          reaches =
              to side table passages (ap (settled o s (sent_to p (suc (suc (suc n))))) (sym more))
              (then side table passages
              (from side table passages (settled-on p₁ g (inl e)) (sends (takes-middle s table v.place same) (stage-room s (length table) same) p₁ g e))
              (from side table passages (settled-on p₂ (second g) (inr (second-turn g e))) (sends (takes-last s table) (readback-room (length table)) p₂ (second g) (second-turn g e))));
        }

    -- all of them
    pub staged : Staged side table passages o s p 3 (waits o s p start) (sure_command side x memory (stage_command s) (stage_block s table) fates)
    unfolding legs
    staged =
        let t : Staged side table passages o s p 2 (settled o s (sent_to p (suc n)) first) (all first) = two first first-turn in
        record { count = t.count; reaches = then side table passages (sends (takes-first s table) (readback-room (length table)) p start refl) t.reaches }
