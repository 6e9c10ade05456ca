-- Word by word: a port of a card with two, beside another that is busy, goes as a card with one port.
-- Assumes nothing.
use Prim.Native.Nat.{ℕ, ◌-◌, ◌≤◌}
use mathlib.Core.Path.{◌≡◌, refl, sym, ap, ap₂, ◌∙◌}
use mathlib.Core.Bool.{Bool, true, false, cond, ◌||◌}
use mathlib.Core.List.{List, [], ◌∷◌}
use borrow.Author.Tests.{eq-eqb, le-leb, eqb-false}
use lib.Dec.{eqb}
use lib.ListN.{length}
use Rattle.bits.specs.Bits.{stream}
use Rattle.rules.specs.Refusals as refusal
use Rattle.rules.specs.Rules.{reset, write, config_write, config_read, deactivate}
use Rattle.rules.proofs.Cases.{by-test}
use Rattle.judge.specs.declared.Bases.{Bases}
use Rattle.judge.proofs.Laws.{never}
use Rattle.card.specs.Card.{selected, word_refusal}
use Rattle.card.specs.Release.{release_refusal, released, memory_after}
use Rattle.card.specs.Exchange.{fields, told, took}
use Rattle.card.specs.State as card
use Rattle.card.specs.State.{emptied}
use Rattle.card.specs.declared.Card.{Card}
use Rattle.card.specs.Answers.{CardAfter}
use Rattle.card.specs.declared.Message.{Message}
use Rattle.card.specs.Answers.{Told}
use Rattle.card.proofs.Holding.{Idle}
use Rattle.card.proofs.Laws.{InRange}
use Rattle.card.proofs.Sound.{not-out}
use Rattle.card.proofs.Stays.{memory-long}
use Rattle.delivery.proofs.Kept.{Like, like-same}
use Rattle.two_ports.specs.OnePort.{seen_after, seen_told}
use Rattle.two_ports.specs.Ports.{ports_select_refusal, ports_release_refusal, release_live, select_near, selected_ports, told_ports, took_ports, released_ports, memory_after_ports}
use Rattle.two_ports.specs.Run as run
use Rattle.two_ports.specs.Run.{RunPorts}
use Rattle.two_ports.specs.State.{is_selected, live, is_port, turned, seen_from, view, view_from, out_of_range}
use Rattle.two_ports.specs.declared.PortRecord.{PortRecord}
use Rattle.two_ports.specs.declared.Ports.{Ports}
use Rattle.two_ports.proofs.Alone.{select-alone, tell-alone, take-alone, release-alone, memory-alone}
use Rattle.two_ports.proofs.Cases.{tell-near-case, take-near-case, release-near-case, is-live, told-live, took-live, released-empty, neither}
use Rattle.two_ports.proofs.Drift.{Drifts, drifts-none, Harmless, HarmlessRelease, select-drifts, tell-drifts, take-drifts, module-drifts, release-drifts, release-memory-stays}
use Rattle.two_ports.proofs.Frame.{seen-bases, own_record, select-seen, tell-seen, take-seen, release-seen}
use Rattle.two_ports.proofs.Refusals.{select-at-port, release-at-port}
use Rattle.two_ports.proofs.Ranges.{run-ranged, view-ranged, seen-ranged, ranged-alike}
use Rattle.beside.specs.Beside.{excluded, is_in, any_in, Holds, happens}
use Rattle.beside.specs.Layers.{WordCall, select, tell, take_word, release, set_module, accepted_at, does_word, accepts_word, ports_in_words}
use Rattle.beside.proofs.Barred.{happens_but}
use Rattle.beside.proofs.InWords.{step_word, InnerWord, is_tell, is_take, LastWord, is_release, word_machine, word-first-memory, inner-timed, inner-memory, word-message, word-whole, word-last-timed}
use Rattle.beside.proofs.Timed.{timed}
use Rattle.beside.proofs.Walk.{Steps, Passed, Rested, Ends, Sees}

-- ---- a port with a live message open, and one with none

pub record OpenPort (p : ℕ) (memory : List ℕ) (d : Ports) : Type 0 where
  pub run : RunPorts d
  pub names_port : is_port p ≡ true
  pub alive : live (own_record p d) ≡ true
  pub held : (own_record p d).held ≡ (seen_from p d).bases
  pub lent : length memory ≡ (seen_from p d).size

pub record ShutPort (p : ℕ) (memory : List ℕ) (d : Ports) : Type 0 where
  pub run : RunPorts d
  pub names_port : is_port p ≡ true
  pub active : (own_record p d).active ≡ true
  pub closed : is_selected (own_record p d) ≡ false
  pub lent : length memory ≡ (seen_from p d).size

-- ---- the port's own calls

-- after its release
record Rests (size : ℕ) (e : Ports) : Type 0 where
  active : e.near.active ≡ true
  closed : is_selected e.near ≡ false
  same : e.size ≡ size

-- what stays while a live message is open
record Alive (size : ℕ) (e : Ports) : Type 0 where
  alive : live e.near ≡ true
  held : e.near.held ≡ e.bases
  same : e.size ≡ size

module _ (p : ℕ) (memory : List ℕ) (d : Ports) where
  pub port-ranged : RunPorts d → InRange (view_from p d)
  port-ranged r = view-ranged (seen_from p d) (seen-ranged p d (run-ranged r))

  alike : RunPorts d → out_of_range d ≡ card.out_of_range (view_from p d)
  alike r = ranged-alike p d (run-ranged r)

  module _ (s : ShutPort p memory d) where
    pub shut-selects : seen_after p (selected_ports d p) ≡ selected (view_from p d)
    shut-selects = select-alone p s.names_port d (alike s.run) s.active

    select-number : (selected (view_from p d)).refusal ≡ refusal.none
    unfolding selected view
    select-number = rw (not-out (view_from p d) (port-ranged s.run), s.closed)

    pub shut-quiet : (selected_ports d p).refusal ≡ refusal.none
    shut-quiet = ap (λ (a : CardAfter). a.refusal) shut-selects ∙ select-number

    pub shut-opened : OpenPort p memory (selected_ports d p).ports
    shut-opened =
        let quiet : ports_select_refusal d p ≡ refusal.none = select-at-port p s.names_port d (alike s.run) ∙ select-number in
        let a : Alive (length memory) (seen_from p (selected_ports d p).ports)
        = select-seen (Alive (length memory)) d p (λ r. absurd (r quiet)) (λ q. unfold select_near live emptied in rw s.active (record { alive = refl; held = refl; same = sym s.lent })) in
        record { run = run.select s.run p; names_port = s.names_port; alive = a.alive; held = a.held; lent = sym a.same }

  module _ (o : OpenPort p memory d) where
    is-alive : Alive (length memory) (seen_from p d)
    is-alive = record { alive = o.alive; held = o.held; same = sym o.lent }

    pub open-tells : seen_told p (told_ports d p memory) ≡ told (view_from p d) memory
    open-tells = tell-alone p o.names_port d (alike o.run) memory (λ q. o.alive)

    pub open-told : OpenPort p memory (told_ports d p memory).ports
    open-told =
        let a : Alive (length memory) (seen_from p (told_ports d p memory).ports)
        = tell-seen (Alive (length memory)) d p memory (λ r. is-alive)
        (λ q. tell-near-case (Alive (length memory)) (seen_from p d) memory
        (λ l. record { alive = told-live (seen_from p d) memory ∙ o.alive; held = o.held; same = sym o.lent }) (λ f. is-alive)) in
        record { run = run.tell o.run p memory; names_port = o.names_port; alive = a.alive; held = a.held; lent = sym a.same }

    pub open-takes : (word : ℕ) → seen_after p (took_ports d p memory word) ≡ took (view_from p d) memory word
    open-takes = take-alone p o.names_port d (alike o.run) memory (λ q. o.alive)

    pub open-took : (word : ℕ) → OpenPort p memory (took_ports d p memory word).ports
    open-took word =
        let a : Alive (length memory) (seen_from p (took_ports d p memory word).ports)
        = take-seen (Alive (length memory)) d p memory word (λ r. is-alive)
        (λ q. take-near-case (Alive (length memory)) (seen_from p d) memory word
        (λ l. record { alive = took-live (seen_from p d) memory word ∙ o.alive; held = o.held; same = sym o.lent }) (λ f. is-alive)) in
        record { run = run.take_word o.run p memory word; names_port = o.names_port; alive = a.alive; held = a.held; lent = sym a.same }

    pub open-releases : (left : ℕ) → seen_after p (released_ports d p (length memory) left) ≡ released (view_from p d) (length memory) left
    open-releases left = release-alone p o.names_port d (alike o.run) (length memory) left (λ q. (o.alive, o.held ∙ seen-bases p d))

    pub open-memory : (left : ℕ) → memory_after_ports d p memory left ≡ memory_after (view_from p d) memory left
    open-memory left = memory-alone p o.names_port d (alike o.run) memory left (λ q. o.alive)

    pub open-word-quiet : word_refusal (view_from p d) (length memory) ≡ refusal.none
    unfolding word_refusal view
    open-word-quiet =
        rw (not-out (view_from p d) (port-ranged o.run), eq-eqb (length memory) (seen_from p d).size o.lent, (is-live (own_record p d) o.alive).selected)

    pub open-release-quiet : (left : ℕ) → left ≤ 15 → release_refusal (view_from p d) (length memory) left ≡ refusal.none
    unfolding release_refusal
    open-release-quiet left few = rw (open-word-quiet, le-leb left 15 few)

    release-quiet : (left : ℕ) → left ≤ 15 → ports_release_refusal d p (length memory) left ≡ refusal.none
    release-quiet left few = release-at-port p o.names_port d (alike o.run) (length memory) left ∙ open-release-quiet left few

    live-rests : (left : ℕ) → release_refusal (view_from p d) (length memory) left ≡ refusal.none → Rests (length memory) (release_live (seen_from p d) (length memory) left)
    unfolding release_live emptied
    live-rests left q =
        record {
          active = (is-live (own_record p d) o.alive).active;
          closed = ap (λ (m : Message). m.opened) (released-empty (view_from p d) (length memory) left q);
          same = sym o.lent;
        }

    pub open-released : (left : ℕ) → left ≤ 15 → ShutPort p (memory_after_ports d p memory left) (released_ports d p (length memory) left).ports
    open-released left few =
        let quiet = release-at-port p o.names_port d (alike o.run) (length memory) left in
        let e : Rests (length memory) (seen_from p (released_ports d p (length memory) left).ports)
        = release-seen (Rests (length memory)) d p (length memory) left (λ r. absurd (r (release-quiet left few)))
        (λ q. release-near-case (Rests (length memory)) (seen_from p d) (length memory) left
        (λ l. live-rests left (sym quiet ∙ q))
        (λ f. never (sym o.alive ∙ f))) in
        record {
          run = run.release o.run p (length memory) left;
          names_port = o.names_port;
          active = e.active;
          closed = e.closed;
          lent = ap length (open-memory left) ∙ memory-long (view_from p d) memory left ∙ sym e.same;
        }

-- ---- the others' calls

-- a release that is not left out accepts none of the excluded commands
kept-out : (code : ℕ) → is_in code excluded ≡ false → Harmless code
unfolding is_in
kept-out code h =
    go (eqb code write.code) (eqb code config_write.code) (eqb code config_read.code) (eqb code reset.code) (eqb code deactivate.code) refl refl refl refl refl h
  where
    go : (a b c d e : Bool) → eqb code write.code ≡ a → eqb code config_write.code ≡ b → eqb code config_read.code ≡ c → eqb code reset.code ≡ d
        → eqb code deactivate.code ≡ e → (a || (b || (c || (d || (e || false))))) ≡ false → Harmless code
    go false false false false false p q r s t h = record {
      no_write = eqb-false code write.code p;
      no_config_write = eqb-false code config_write.code q;
      no_config_read = eqb-false code config_read.code r;
      no_reset = eqb-false code reset.code s;
      no_deactivate = eqb-false code deactivate.code t;
    }
    go true b c d e p q r s t h = never h
    go false true c d e p q r s t h = never h
    go false false true d e p q r s t h = never h
    go false false false true e p q r s t h = never h
    go false false false false true p q r s t h = never h

pub harmless-accepted : (q : ℕ) (d : Ports) (size left : ℕ) → any_in (accepted_at d q size left) excluded ≡ false → HarmlessRelease q d size left
unfolding accepted_at any_in
harmless-accepted q d size left h quiet alive accepted = kept-out (fields (view_from q d)).code (either (rw (quiet, alive, accepted) at h))
  where
    either : (is_in (fields (view_from q d)).code excluded || false) ≡ false → is_in (fields (view_from q d)).code excluded ≡ false
    either h = (neither (is_in (fields (view_from q d)).code excluded) false h).0

-- what a call of the others leaves: the memory stays, the card drifts, and it goes on running
record Others (p : ℕ) (memory : List ℕ) (d : Ports) (h : Holds Ports) : Type 0 where
  later : Ports
  is : h ≡ record { state = later; memory = memory }
  drifts : Drifts p d later
  run : RunPorts later

module _ (p : ℕ) (port : is_port p ≡ true) (memory : List ℕ) (d : Ports) (r : RunPorts d) (on : (own_record p d).active ≡ true) where
  done : (call : WordCall) → any_in (accepts_word (1 - p) d memory call) excluded ≡ false
      → Others p memory d (record { state = (does_word (1 - p) d memory call).state; memory = (does_word (1 - p) d memory call).memory })
  unfolding does_word accepts_word
  done select h = record { later = _; is = refl; drifts = select-drifts p port d; run = run.select r (1 - p) }
  done tell h = record { later = _; is = refl; drifts = tell-drifts p port d memory; run = run.tell r (1 - p) memory }
  done (take_word word) h = record { later = _; is = refl; drifts = take-drifts p port d memory word; run = run.take_word r (1 - p) memory word }
  done (release left) h =
      let harmless = harmless-accepted (1 - p) d (length memory) left h in
      record {
        later = (released_ports d (1 - p) (length memory) left).ports;
        is = ap (λ (m : List ℕ). record { state = (released_ports d (1 - p) (length memory) left).ports; memory = m }) (release-memory-stays (1 - p) d memory left harmless);
        drifts = release-drifts p port d (length memory) left on harmless;
        run = run.release r (1 - p) (length memory) left;
      }
  done (set_module stf state) h = record { later = _; is = refl; drifts = module-drifts p d stf state; run = run.set_module r stf state }

  others : (call : WordCall) → Others p memory d (happens_but ports_in_words excluded p call (record { state = d; memory = memory }))
  unfolding happens_but happens
  others call =
      by-test (Others p memory d) (any_in (accepts_word (1 - p) d memory call) excluded)
      (λ e. record { later = d; is = refl; drifts = drifts-none p d; run = r }) (λ e. done call e)

-- what the ports have in common is the same from each
seen-common : {A : Type 0} (of : Ports → A) → ((d : Ports) → of (turned d) ≡ of d) → (p : ℕ) (d : Ports) → of (seen_from p d) ≡ of d
unfolding seen_from
seen-common of turns p d = by-test (λ (e : Ports). of e ≡ of d) (eqb p 1) (λ t. turns d) (λ t. refl)

-- what a port sees of a card that drifted: another time, and while it is not selected another STF and module state
module _ (p : ℕ) (d later : Ports) (g : Drifts p d later) where
  common : {A : Type 0} (of : Ports → A) → ((e : Ports) → of (turned e) ≡ of e) → of later ≡ of d → of (seen_from p later) ≡ of (seen_from p d)
  common of turns e = seen-common of turns p later ∙ e ∙ sym (seen-common of turns p d)

  pub drifts-size : (seen_from p later).size ≡ (seen_from p d).size
  drifts-size = common (λ e. e.size) (λ e. refl) g.size

  pub drifts-bases : (seen_from p later).bases ≡ (seen_from p d).bases
  drifts-bases = common (λ e. e.bases) (λ e. refl) g.bases

  pub drifts-like : Like false (view_from p d) (view_from p later)
  unfolding view
  drifts-like =
      record {
        size = drifts-size;
        bases = ap₂ (λ (r : PortRecord) (b : Bases). cond (is_selected r) r.held b) g.record_stays drifts-bases;
        port = ap (λ (r : PortRecord). r.port) g.record_stays;
        same = λ e. never (sym e);
      }

  pub drifts-timed : is_selected (own_record p d) ≡ true → view_from p later ≡ timed (seen_from p later).time (view_from p d)
  unfolding view
  drifts-timed o =
      ap (λ (n : ℕ). sees n now.bases now.stf now.module_state now.near) drifts-size
      ∙ ap (λ (b : Bases). sees then.size b now.stf now.module_state now.near) drifts-bases
      ∙ ap (λ (t : Bool). sees then.size then.bases t now.module_state now.near) (common (λ e. e.stf) (λ e. refl) (g.module_stays o).0)
      ∙ ap (λ (n : ℕ). sees then.size then.bases then.stf n now.near) (common (λ e. e.module_state) (λ e. refl) (g.module_stays o).1)
      ∙ ap (sees then.size then.bases then.stf then.module_state) g.record_stays
    where
      now : Ports
      now = seen_from p later

      then : Ports
      then = seen_from p d

      sees : ℕ → Bases → Bool → ℕ → PortRecord → Card
      sees size bases stf state r = record {
        size = size;
        time = (seen_from p later).time;
        bases = cond (is_selected r) r.held bases;
        stf = stf;
        module_state = state;
        port = r.port;
      }

-- the port goes on as it was
module _ {p : ℕ} {memory : List ℕ} {d later : Ports} (g : Drifts p d later) (r : RunPorts later) where
  pub drifts-open : OpenPort p memory d → OpenPort p memory later
  drifts-open o = record {
    run = r;
    names_port = o.names_port;
    alive = ap live g.record_stays ∙ o.alive;
    held = ap (λ (x : PortRecord). x.held) g.record_stays ∙ o.held ∙ sym (drifts-bases p d later g);
    lent = o.lent ∙ sym (drifts-size p d later g);
  }

  pub drifts-shut : ShutPort p memory d → ShutPort p memory later
  drifts-shut o = record {
    run = r;
    names_port = o.names_port;
    active = ap (λ (x : PortRecord). x.active) g.record_stays ∙ o.active;
    closed = ap is_selected g.record_stays ∙ o.closed;
    lent = o.lent ∙ sym (drifts-size p d later g);
  }

-- ---- all of it

module _ (p : ℕ) where
  other-open : (call : WordCall) (memory : List ℕ) (d : Ports) → OpenPort p memory d
      → Passed word_machine (view_from p) (OpenPort p memory) d memory (happens_but ports_in_words excluded p call (record { state = d; memory = memory }))
  other-open call memory d o =
      let x = others p o.names_port memory d o.run (is-live (own_record p d) o.alive).active call in
      record {
        later = x.later;
        is = x.is;
        time = (seen_from p x.later).time;
        goes = drifts-timed p d x.later x.drifts (is-live (own_record p d) o.alive).selected;
        opened = drifts-open x.drifts x.run o;
      }

  other-shut : (call : WordCall) (memory : List ℕ) (d : Ports) → ShutPort p memory d
      → Rested word_machine (view_from p) (ShutPort p memory) d memory (happens_but ports_in_words excluded p call (record { state = d; memory = memory }))
  other-shut call memory d o =
      let x = others p o.names_port memory d o.run o.active call in
      record {
        later = x.later;
        is = x.is;
        like = drifts-like p d x.later x.drifts;
        shut = drifts-shut x.drifts x.run o;
      }

  takes : {call : WordCall} → InnerWord call → (memory : List ℕ) (d : Ports) → OpenPort p memory d
      → Steps word_machine (view_from p) (OpenPort p memory) memory (does_word p d memory call) (step_word (view_from p d) memory call)
  unfolding does_word step_word
  takes is_tell memory d o =
      let is = open-tells p memory d o in
      record {
        later = (told_ports d p memory).ports;
        is = ap (λ (t : Told). record { state = (told_ports d p memory).ports; memory = memory; sent = stream 16 (t.word ∷ []); refusal = t.refusal }) is;
        goes = ap (λ (t : Told). t.card) is;
        opened = open-told p memory d o;
      }
  takes (is_take word) memory d o =
      let is = open-takes p memory d o word in
      record {
        later = (took_ports d p memory word).ports;
        is = ap (λ (a : CardAfter). record { state = (took_ports d p memory word).ports; memory = memory; sent = []; refusal = a.refusal }) is;
        goes = ap (λ (a : CardAfter). a.card) is;
        opened = open-took p memory d o word;
      }

  selects : (memory : List ℕ) (d : Ports) → ShutPort p memory d
      → Steps word_machine (view_from p) (OpenPort p memory) memory (does_word p d memory select) (step_word (view_from p d) memory select)
  unfolding does_word step_word
  selects memory d o =
      let is = shut-selects p memory d o in
      record {
        later = (selected_ports d p).ports;
        is = ap (λ (a : CardAfter). record { state = (selected_ports d p).ports; memory = memory; sent = []; refusal = a.refusal }) is;
        goes = ap (λ (a : CardAfter). a.card) is;
        opened = shut-opened p memory d o;
      }

  releases : {call : WordCall} → LastWord call → (memory : List ℕ) (d : Ports) → OpenPort p memory d
      → Ends word_machine (view_from p) (λ later. λ lent. ShutPort p lent later) (does_word p d memory call) (step_word (view_from p d) memory call)
  unfolding does_word step_word
  releases (is_release left few) memory d o =
      let is = open-releases p memory d o left in
      record {
        memory_is = open-memory p memory d o left;
        sent_is = refl;
        refusal_is = ap (λ (a : CardAfter). a.refusal) is;
        after = like-same (ap (λ (a : CardAfter). a.card) is);
        shut = open-released p memory d o left few;
      }

  shut-here : (d : Ports) (memory : List ℕ) → RunPorts d → is_port p ≡ true → (own_record p d).active ≡ true → Idle (view_from p d) memory → ShutPort p memory d
  unfolding view emptied
  shut-here d memory r port active idle =
      record { run = r; names_port = port; active = active; closed = ap (λ (m : Message). m.opened) idle.closed; lent = idle.lent }

  pub words-see : Sees ports_in_words p word_machine
  words-see = record {
    seen = view_from p;
    Open = OpenPort p;
    Shut = ShutPort p;
    seen_card = λ d. refl;
    shut_ranged = λ {memory} {s} z. port-ranged p memory s z.run;
    shut_runs = λ s coming accepted. record { run = s.run; names_port = s.names_port; active = s.active };
    runs_shut = λ {b} r memory idle. shut-here b.state memory r.run r.names_port r.active idle;
    is_message = word-message;
    selects = selects;
    select_memory = word-first-memory;
    takes = takes;
    releases = releases;
    other_open = other-open;
    other_shut = other-shut;
    same_time = λ c. refl;
    last_time = λ time time' c. refl;
    inner_timed = inner-timed;
    inner_memory = inner-memory;
    last_timed = word-last-timed;
    whole = λ c memory idle d s e line. word-whole c memory idle line;
  }
