-- What the answer reader's tests tell.
-- Assumes nothing.
use Prim.Native.Nat.{ℕ, ◌≤◌}
use mathlib.Core.Bool.{not}
use mathlib.Core.List.{List}
use mathlib.Core.Path.{◌≡◌}
use borrow.Author.Tests.{eqb-true, leb-true, lt-ltb, le-ltb, le-leb, lt-leb, eq-eqb, ne_eqb}
use lib.Dec.{eqb, leb, lit<}
use lib.ListN.{length, get_or}
use Rattle.rules.specs.Refusals as refusal
use Rattle.rules.specs.Rules.{message_words}
use Rattle.token.specs.Marks.{any_wrong}
use Rattle.token.proofs.Wrong.{response-names}
use Rattle.controller.specs.Reader.{read_refusal, token_good, token_wrong, answer_read}
use Rattle.controller.proofs.MessageLaws.{passed-by, message-long, tail-lent}

-- an answer that is not refused has a length up to 63, and as many words as that asks for
pub read-passed : (len count : ℕ) → read_refusal len count ≡ refusal.none → (len ≤ 63) × (count ≡ message_words len)
unfolding read_refusal
read-passed len count h =
    let (short, same) = passed-by (leb len 63) (eqb count (message_words len)) refusal.argument refusal.count (lit< tt) (lit< tt) h in
    (leb-true len 63 short, eqb-true count (message_words len) same)

-- an answer that is not refused names a wrong mark exactly where its token is bad
pub answer-names : (len : ℕ) (words : List ℕ) → read_refusal len (length words) ≡ refusal.none
    → any_wrong (answer_read len words).wrong ≡ not (answer_read len words).token
unfolding answer_read token_good token_wrong
answer-names len words passed = rw passed (response-names (get_or words 0 0) (get_or words 1 0))

-- the lemmas by which the check follows an answer's tests
pub ruleset reading = (lt-ltb, le-ltb, le-leb, lt-leb, eq-eqb, ne_eqb, message-long, tail-lent)
