-- A port of a card with two, beside another that is busy, goes as a card with one port goes alone. Once for words and pins: what is needed of a layer
-- is collected in `Sees`.
-- Assumes nothing.
use Prim.Native.Nat.{ℕ}
use mathlib.Core.Path.{◌≡◌, refl, sym, ap, ap₂, ◌∙◌, subst, subst₂}
use mathlib.Core.Bool.{Bool, false}
use mathlib.Core.List.{List, [], ◌∷◌, ◌++◌}
use lib.ListN.{length, take}
use Rattle.judge.proofs.Laws.{never}
use Rattle.card.specs.Whole.{listed, heard}
use Rattle.card.specs.declared.Card.{Card}
use Rattle.card.specs.declared.Port.{Port}
use Rattle.card.proofs.Holding.{Idle}
use Rattle.card.proofs.Laws.{InRange}
use Rattle.delivery.proofs.Kept.{Like, like-self}
use Rattle.delivery.proofs.Sides.{Meets}
use Rattle.two_ports.specs.State.{view_from}
use Rattle.beside.specs.Beside.{excluded, Holds, Beside, next_of, later_of, Walked, RunBeside}
use Rattle.beside.specs.Layers.{Did, Layer}
use Rattle.beside.proofs.Barred.{happens_but, all_happen_but, walked_but, heard_but, beside_but}

-- ---- a card with one port that makes the same calls

-- its states, the card in them, its calls, the state with another time, and which call is a message's first, one inside it, and its last
pub record Machine (layer : Layer) : Type 1 where
  pub M : Type 0
  pub card : M → Card
  pub steps : M → List ℕ → layer.Call → Did M
  pub retimed : ℕ → M → M
  pub first : layer.Call
  pub Inner : layer.Call → Type 0
  pub Last : layer.Call → Type 0

pub record Stepped (M : Type 0) : Type 0 where
  pub state : M
  pub memory : List ℕ
  pub sent : List Bool
  pub refused : List ℕ

abbrev pub stepped_behind : {M : Type 0} → Did M → Stepped M → Stepped M
stepped_behind first rest = record {
  state = rest.state;
  memory = rest.memory;
  sent = first.sent ++ rest.sent;
  refused = listed first.refusal ++ rest.refused;
}

-- calls one after the other, and nothing between them
unfoldable pub stepped : {layer : Layer} (one : Machine layer) → List layer.Call → one.M → List ℕ → Stepped one.M
stepped one [] m memory = record { state = m; memory = memory; sent = []; refused = [] }
stepped one (call ∷ calls) m memory =
    stepped_behind (one.steps m memory call) (stepped one calls (one.steps m memory call).state (one.steps m memory call).memory)

-- the calls of a message, between its first and its last
pub data AllInner {layer : Layer} (one : Machine layer) : List layer.Call → Type 0 where
  no_call : AllInner one []
  one_more : {call : layer.Call} {calls : List layer.Call} → one.Inner call → AllInner one calls → AllInner one (call ∷ calls)

pub record IsMessage {layer : Layer} (one : Machine layer) (calls : List layer.Call) : Type 0 where
  pub inner : List layer.Call
  pub last : layer.Call
  pub are : calls ≡ one.first ∷ (inner ++ (last ∷ []))
  pub all_inner : AllInner one inner
  pub is_last : one.Last last

-- ---- what a port sees

-- a call inside a message: as the one-port card's, the memory stays, and the message stays open
pub record Steps {layer : Layer} (one : Machine layer) (seen : layer.State → one.M) (Open : layer.State → Type 0) (memory : List ℕ) (d : Did layer.State) (e : Did one.M) : Type 0 where
  pub later : layer.State
  pub is : d ≡ record { state = later; memory = memory; sent = e.sent; refusal = e.refusal }
  pub goes : seen later ≡ e.state
  pub opened : Open later

-- what the others did: they moved the time at most
pub record Passed {layer : Layer} (one : Machine layer) (seen : layer.State → one.M) (Open : layer.State → Type 0) (s : layer.State) (memory : List ℕ) (h : Holds layer.State) : Type 0 where
  pub later : layer.State
  pub is : h ≡ record { state = later; memory = memory }
  pub time : ℕ
  pub goes : seen later ≡ one.retimed time (seen s)
  pub opened : Open later

-- or, while the port is not selected, STF and module state too
pub record Rested {layer : Layer} (one : Machine layer) (seen : layer.State → one.M) (Shut : layer.State → Type 0) (s : layer.State) (memory : List ℕ) (h : Holds layer.State) : Type 0 where
  pub later : layer.State
  pub is : h ≡ record { state = later; memory = memory }
  pub like : Like false (one.card (seen s)) (one.card (seen later))
  pub shut : Shut later

-- the last call: the message is closed
pub record Ends {layer : Layer} (one : Machine layer) (seen : layer.State → one.M) (Shut : layer.State → List ℕ → Type 0) (d : Did layer.State) (e : Did one.M) : Type 0 where
  pub memory_is : d.memory ≡ e.memory
  pub sent_is : d.sent ≡ e.sent
  pub refusal_is : d.refusal ≡ e.refusal
  pub after : Like false (one.card e.state) (one.card (seen d.state))
  pub shut : Shut d.state d.memory

pub record Sees (layer : Layer) (p : ℕ) (one : Machine layer) : Type 1 where
  pub seen : layer.State → one.M
  -- with a live message open, and with none, the memory being the card's
  pub Open : List ℕ → layer.State → Type 0
  pub Shut : List ℕ → layer.State → Type 0
  pub seen_card : (s : layer.State) → one.card (seen s) ≡ view_from p (layer.ports s)
  pub shut_ranged : {memory : List ℕ} {s : layer.State} → Shut memory s → InRange (view_from p (layer.ports s))
  pub shut_runs : {memory : List ℕ} {s : layer.State} → Shut memory s → (coming : List (List layer.Call)) (accepted : List ℕ)
      → RunBeside layer p (record { state = s; coming = coming; accepted = accepted })
  pub runs_shut : {b : Beside layer} → RunBeside layer p b → (memory : List ℕ) → Idle (view_from p (layer.ports b.state)) memory → Shut memory b.state
  -- the port's own calls
  pub is_message : (line : List Bool) → IsMessage one (layer.message line)
  pub selects : (memory : List ℕ) (s : layer.State) → Shut memory s
      → Steps one seen (Open memory) memory (layer.does p s memory one.first) (one.steps (seen s) memory one.first)
  pub select_memory : (memory : List ℕ) (m : one.M) → (one.steps m memory one.first).memory ≡ memory
  pub takes : {call : layer.Call} → one.Inner call → (memory : List ℕ) (s : layer.State) → Open memory s
      → Steps one seen (Open memory) memory (layer.does p s memory call) (one.steps (seen s) memory call)
  pub releases : {call : layer.Call} → one.Last call → (memory : List ℕ) (s : layer.State) → Open memory s
      → Ends one seen (λ later. λ x. Shut x later) (layer.does p s memory call) (one.steps (seen s) memory call)
  -- the others'
  pub other_open : (call : layer.Call) (memory : List ℕ) (s : layer.State) → Open memory s
      → Passed one seen (Open memory) s memory (happens_but layer excluded p call (record { state = s; memory = memory }))
  pub other_shut : (call : layer.Call) (memory : List ℕ) (s : layer.State) → Shut memory s
      → Rested one seen (Shut memory) s memory (happens_but layer excluded p call (record { state = s; memory = memory }))
  -- the time does not matter
  pub same_time : (m : one.M) → one.retimed (one.card m).time m ≡ m
  pub last_time : (time time' : ℕ) (m : one.M) → one.retimed time (one.retimed time' m) ≡ one.retimed time m
  pub inner_timed : {call : layer.Call} → one.Inner call → (time : ℕ) (m : one.M) (memory : List ℕ)
      → one.steps (one.retimed time m) memory call
      ≡ record { state = one.retimed time (one.steps m memory call).state; memory = memory; sent = (one.steps m memory call).sent; refusal = (one.steps m memory call).refusal }
  pub inner_memory : {call : layer.Call} → one.Inner call → (m : one.M) (memory : List ℕ) → (one.steps m memory call).memory ≡ memory
  pub last_timed : {call : layer.Call} → one.Last call → (time : ℕ) (m : one.M) (memory : List ℕ)
      → let e = one.steps m memory call in
      let x = one.steps (one.retimed time m) memory call in
      (x.memory ≡ e.memory) × (x.sent ≡ e.sent) × (x.refusal ≡ e.refusal) × Like false (one.card e.state) (one.card x.state)
  -- a whole message alone
  pub whole : (m : one.M) (memory : List ℕ) → Idle (one.card m) memory → (s : layer.State) → Shut memory s → seen s ≡ m → (line : List Bool)
      → let w = stepped one (layer.message line) m memory in
      let h = heard (one.card m) memory line in
      (one.card w.state ≡ h.side) × (w.memory ≡ h.memory) × (take (length line) w.sent ≡ h.sent) × (w.refused ≡ h.refused)

-- ---- beside the others

like-then : {a b c : Card} → Like false a b → Like false b c → Like false a c
like-then h g = record { size = g.size ∙ h.size; bases = g.bases ∙ h.bases; port = g.port ∙ h.port; same = λ e. never (sym e) }

module _ (layer : Layer) (p : ℕ) (one : Machine layer) (z : Sees layer p one) where
  abbrev B : Type 0
  B = Beside layer

  abbrev M : Type 0
  M = one.M

  -- between two calls
  all-open : (calls : List layer.Call) (memory : List ℕ) (s : layer.State) → z.Open memory s
      → Passed one z.seen (z.Open memory) s memory (all_happen_but layer excluded p calls (record { state = s; memory = memory }))
  unfolding all_happen_but
  all-open [] memory s o = record { later = s; is = refl; time = (one.card (z.seen s)).time; goes = sym (z.same_time (z.seen s)); opened = o }
  all-open (call ∷ calls) memory s o =
      let x = z.other_open call memory s o in
      let y = all-open calls memory x.later x.opened in
      record {
        later = y.later;
        is = ap (all_happen_but layer excluded p calls) x.is ∙ y.is;
        time = y.time;
        goes = y.goes ∙ ap (one.retimed y.time) x.goes ∙ z.last_time y.time x.time (z.seen s);
        opened = y.opened;
      }

  pub all-shut : (calls : List layer.Call) (memory : List ℕ) (s : layer.State) → z.Shut memory s
      → Rested one z.seen (z.Shut memory) s memory (all_happen_but layer excluded p calls (record { state = s; memory = memory }))
  unfolding all_happen_but
  all-shut [] memory s o = record { later = s; is = refl; like = like-self (one.card (z.seen s)); shut = o }
  all-shut (call ∷ calls) memory s o =
      let x = z.other_shut call memory s o in
      let y = all-shut calls memory x.later x.shut in
      record { later = y.later; is = ap (all_happen_but layer excluded p calls) x.is ∙ y.is; like = like-then x.like y.like; shut = y.shut }

  -- the calls that are left of a message
  record Ended (w : Walked layer) (e : Stepped M) : Type 0 where
    memory_is : w.memory ≡ e.memory
    sent_is : w.sent ≡ e.sent
    refused_is : w.refused ≡ e.refused
    after : Like false (one.card e.state) (one.card (z.seen w.side.state))
    shut : z.Shut w.memory w.side.state

  -- the release
  ends : {last : layer.Call} → one.Last last → (b : B) (memory : List ℕ) (m : M) (time : ℕ) → z.Open memory b.state → z.seen b.state ≡ one.retimed time m
      → Ended (walked_but layer excluded p (last ∷ []) b memory) (stepped one (last ∷ []) m memory)
  unfolding walked_but stepped
  ends {last} l b memory m time o e =
      let x = all-open (next_of b.coming) memory b.state o in
      let sees : z.seen x.later ≡ one.retimed x.time m = x.goes ∙ ap (one.retimed x.time) e ∙ z.last_time x.time time m in
      let y : Ends one z.seen (λ later. λ lent. z.Shut lent later) (layer.does p x.later memory last) (one.steps (one.retimed x.time m) memory last)
      = subst (λ (k : M). Ends one z.seen (λ later. λ lent. z.Shut lent later) (layer.does p x.later memory last) (one.steps k memory last)) sees
      (z.releases l memory x.later x.opened) in
      let (memory_same, sent_same, refusal-same, like) = z.last_timed l x.time m memory in
      rw x.is (record {
        memory_is = y.memory_is ∙ memory_same;
        sent_is = ap (λ (bits : List Bool). bits ++ []) (y.sent_is ∙ sent_same);
        refused_is = ap (λ (n : ℕ). listed n ++ []) (y.refusal_is ∙ refusal-same);
        after = like-then like y.after;
        shut = y.shut;
      })

  goes-on : {calls : List layer.Call} → AllInner one calls → {last : layer.Call} → one.Last last → (b : B) (memory : List ℕ) (m : M) (time : ℕ)
      → z.Open memory b.state → z.seen b.state ≡ one.retimed time m
      → Ended (walked_but layer excluded p (calls ++ (last ∷ [])) b memory) (stepped one (calls ++ (last ∷ [])) m memory)
  unfolding walked_but stepped
  goes-on no_call l b memory m time o e = ends l b memory m time o e
  goes-on (one_more {call} {calls} i rest) {last} l b memory m time o e =
      let x = all-open (next_of b.coming) memory b.state o in
      let sees : z.seen x.later ≡ one.retimed x.time m = x.goes ∙ ap (one.retimed x.time) e ∙ z.last_time x.time time m in
      let step : Steps one z.seen (z.Open memory) memory (layer.does p x.later memory call) (one.steps (one.retimed x.time m) memory call)
      = subst (λ (k : M). Steps one z.seen (z.Open memory) memory (layer.does p x.later memory call) (one.steps k memory call)) sees
      (z.takes i memory x.later x.opened) in
      let timed = z.inner_timed i x.time m memory in
      let more = goes-on rest l (record { state = step.later; coming = later_of b.coming; accepted = _ }) memory (one.steps m memory call).state x.time step.opened
      (step.goes ∙ ap (λ (d : Did M). d.state) timed) in
      rw (x.is, step.is, z.inner_memory i m memory) (record {
        memory_is = more.memory_is;
        sent_is = ap₂ (λ (a : List Bool) (b : List Bool). a ++ b) (ap (λ (d : Did M). d.sent) timed) more.sent_is;
        refused_is = ap₂ (λ (n : ℕ) (l : List ℕ). listed n ++ l) (ap (λ (d : Did M). d.refusal) timed) more.refused_is;
        after = more.after;
        shut = more.shut;
      })

  -- ---- a whole message

  module _ (b : B) (memory : List ℕ) (r : RunBeside layer p b) (idle : Idle (view_from p (layer.ports b.state)) memory) (line : List Bool) where
    -- what the others did before the select
    rested : Rested one z.seen (z.Shut memory) b.state memory (all_happen_but layer excluded p (next_of b.coming) (record { state = b.state; memory = memory }))
    rested = all-shut (next_of b.coming) memory b.state (z.runs_shut r memory idle)

    -- what the port sees then
    abbrev m : M
    m = z.seen rested.later

    calls : IsMessage one (layer.message line)
    calls = z.is_message line

    all-ended : Ended (walked_but layer excluded p (one.first ∷ (calls.inner ++ (calls.last ∷ []))) b memory) (stepped one (one.first ∷ (calls.inner ++ (calls.last ∷ []))) m memory)
    unfolding walked_but stepped
    all-ended =
        let select = z.selects memory rested.later rested.shut in
        let m' : M = (one.steps m memory one.first).state in
        let more = goes-on calls.all_inner calls.is_last (record { state = select.later; coming = later_of b.coming; accepted = _ }) memory m' (one.card m').time
        select.opened (select.goes ∙ sym (z.same_time m')) in
        rw (rested.is, select.is, z.select_memory memory m) (record {
          memory_is = more.memory_is;
          sent_is = ap (λ (l : List Bool). (one.steps m memory one.first).sent ++ l) more.sent_is;
          refused_is = ap (λ (l : List ℕ). listed (one.steps m memory one.first).refusal ++ l) more.refused_is;
          after = more.after;
          shut = more.shut;
        })

    message-ended : Ended (walked_but layer excluded p (layer.message line) b memory) (stepped one (layer.message line) m memory)
    message-ended =
        subst (λ (l : List layer.Call). Ended (walked_but layer excluded p l b memory) (stepped one l m memory)) (sym calls.are) all-ended

    found-like : Like false (view_from p (layer.ports b.state)) (one.card m)
    found-like = rw (← z.seen_card b.state) rested.like

    found-ranged : InRange (one.card m)
    found-ranged = rw (z.seen_card rested.later) (z.shut_ranged rested.shut)

    found-idle : Idle (one.card m) memory
    found-idle =
        record {
          ranged = found-ranged;
          closed = ap (λ (x : Port). x.message) found-like.port ∙ idle.closed;
          lent = idle.lent ∙ sym found-like.size;
        }

    pub meets-beside : Meets (beside_but layer excluded p) b memory (heard_but layer excluded p b memory line) (λ c. heard c memory line)
    unfolding heard_but
    meets-beside =
        let e = message-ended in
        let later : Beside layer = (walked_but layer excluded p (layer.message line) b memory).side in
        let (card_is, memory_is, sent_is, refused_is) = z.whole m memory found-idle rested.later rested.shut refl line in
        record {
          found = one.card m;
          like = found-like;
          ranged = found-ranged;
          after = subst₂ (Like false) card_is (z.seen_card later.state) e.after;
          memory_same = e.memory_is ∙ memory_is;
          sent_same = ap (take (length line)) e.sent_is ∙ sent_is;
          refused_same = e.refused_is ∙ refused_is;
          runs = z.shut_runs e.shut later.coming later.accepted;
        }
