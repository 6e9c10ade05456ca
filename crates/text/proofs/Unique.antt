-- Each public operation's contract leaves one answer, and one content of what it is lent. No two lines give the same number and values.
-- Assumes nothing.
use mathlib.Core.Bool.{cond}
use mathlib.Core.Path.{◌≡◌, refl, sym, ap, ◌∙◌}
use lib.Dec.{eqb}
use Rattle.rules.proofs.OneAnswer.{same-value}
use Rattle.text.specs.Letters as letter
use Rattle.text.specs.Lines.{Shown, line_gives}
use Rattle.text.specs.declared.Line.{Line}
use Rattle.text.specs.declared.Line.TheVariants.{Selected, Taken, Released, ModuleSet, Refused}
use Rattle.text.proofs.hex_word.Reads as hex-word
use Rattle.text.proofs.kind.KindTryFromU8.try_from.Reads as kind-from
use Rattle.text.proofs.line_text.Reads as line-text
use Rattle.text.proofs.port_line_text.Reads as port-line-text
use Rattle.text.proofs.put_line.Reads as put-line
use Rattle.text.proofs.put_port_line.Reads as put-port-line
use Rattle.text.proofs.RecordFromArrayU8RECORDBYTES.from.Reads as record-from
use Rattle.text.proofs.time_text.Reads as time-text

-- the line that gives these
line_of : Shown → Line
line_of s =
    cond (eqb s.letter letter.capital_s) Selected
    (cond (eqb s.letter letter.capital_w) (Taken s.word s.sent)
    (cond (eqb s.letter letter.capital_r) (Released s.status)
    (cond (eqb s.letter letter.capital_m) ModuleSet
    (Refused s.refusal))))

back : (line : Line) → line_of (line_gives line) ≡ line
unfolding line_of
back Selected = refl
back (Taken word sent) = refl
back (Released bits) = refl
back ModuleSet = refl
back (Refused number) = refl

pub one-line : (l m : Line) → line_gives l ≡ line_gives m → l ≡ m
one-line l m e = sym (back l) ∙ ap line_of e ∙ back m

pub one-record-from : (κs : _) (a : _) (r s : _) (e f : _) → record-from.Post κs a r e → record-from.Post κs a s f → r ≡ s
one-record-from κs a r s e f p q = p ∙ sym q

pub one-kind : (κs : _) (a : _) (r s : _) (e f : _) → kind-from.Post κs a r e → kind-from.Post κs a s f → r ≡ s
one-kind κs a r s e f p q = p ∙ sym q

pub one-hex-word : (κs : _) (a : _) (r s : _) (e f : _) → hex-word.Post κs a r e → hex-word.Post κs a s f → r ≡ s
one-hex-word κs a r s e f p q = p ∙ sym q

pub one-line-text : (κs : _) (a : _) (r s : _) (e f : _) → line-text.Post κs a r e → line-text.Post κs a s f → r ≡ s
one-line-text κs a r s e f p q = p ∙ sym q

pub one-port-line-text : (κs : _) (a : _) (r s : _) (e f : _) → port-line-text.Post κs a r e → port-line-text.Post κs a s f → r ≡ s
one-port-line-text κs a r s e f p q = p ∙ sym q

pub one-put-line : (κs : _) (a : _) (r s : _) (e f : _) → put-line.Post κs a r e → put-line.Post κs a s f → (r ≡ s) × (e.0.now ≡ f.0.now)
one-put-line κs a r s e f p q = (same-value _ r s (p.0 ∙ sym q.0) p.1.0 q.1.0, p.1.1 ∙ sym q.1.1)

pub one-put-port-line : (κs : _) (a : _) (r s : _) (e f : _) → put-port-line.Post κs a r e → put-port-line.Post κs a s f
    → (r ≡ s) × (e.0.now ≡ f.0.now)
one-put-port-line κs a r s e f p q = (same-value _ r s (p.0 ∙ sym q.0) p.1.0 q.1.0, p.1.1 ∙ sym q.1.1)

pub one-time-text : (κs : _) (a : _) (r s : _) (e f : _) → time-text.Post κs a r e → time-text.Post κs a s f → r ≡ s
one-time-text κs a r s e f p q = p ∙ sym q
