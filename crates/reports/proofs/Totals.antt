-- The amounts of lines, added up one after the other. Assumes nothing.
use Rattle.std.proofs.Common.{◌≡◌, List, [], ◌∷◌, fold, ℤ, pos, ◌+ℤ◌, ap, ◌∙◌, w64}
use Rattle.std.proofs.lemmas.Int.{SFits-int_wrap, int_wrap-add_left}
use Rattle.std.specs.Int.{int_wrap}
use Rattle.base.specs.declared.cents.Cents.{Cents}
use Rattle.lines.specs.declared.line.Line.{Line}
use Rattle.reports.specs.Pools.{total}

-- an amount and that of a line, modulo 2^64 in signed form
abbrev pub plus : Cents → Line → Cents
plus a l = record { cents = int_wrap w64 (a.cents +ℤ l.amount.cents); fits = (SFits-int_wrap w64 (a.cents +ℤ l.amount.cents)).sfits }

-- to wrap after each line is to wrap once, at the end
folded : (a : Cents) (z : ℤ) (ls : List Line) → a.cents ≡ int_wrap w64 z → (fold plus a ls).cents ≡ int_wrap w64 (fold (λ y l. y +ℤ l.amount.cents) z ls)
folded a z [] e = e
folded a z (l ∷ ls) e = folded (plus a l) (z +ℤ l.amount.cents) ls (ap (λ y. int_wrap w64 (y +ℤ l.amount.cents)) e ∙ int_wrap-add_left w64 z l.amount.cents)

pub adds_up : (a : Cents) (ls : List Line) → a.cents ≡ pos 0 → (fold plus a ls).cents ≡ total ls
unfolding int_wrap
adds_up a ls none = folded a (pos 0) ls none
