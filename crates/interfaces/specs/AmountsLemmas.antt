-- Why amounts may be added up in any grouping. Assumes nothing.
-- These are proofs, which a reader need not read: they stand here since what an impl gives for a law may cite no file of proofs/.
use Rattle.std.specs.Prelude.{◌≡◌, ℤ, ◌+ℤ◌}
use Rattle.std.proofs.Common.{sym, ap, ◌∙◌}
use Rattle.std.proofs.Math.IntN.{+ℤ_idl, +ℤ_idr, +ℤ_assoc}
use Rattle.std.proofs.lemmas.Int.{int_wrap_fits, int_wrap-add_left, int_wrap-add_right}
use Rattle.std.specs.Int.{int_wrap, w64}
use Rattle.base.proofs.Money.{same_cents}
use Rattle.base.specs.declared.cents.Cents.{Cents}
use Rattle.interfaces.specs.Amounts.{amount_of, nothing, sum}

-- an amount is that of its number of cents
pub amount_is : (a : Cents) (cents : ℤ) → a.cents ≡ int_wrap w64 cents → a ≡ amount_of cents
amount_is a cents e = same_cents a (amount_of cents) e

-- an amount does not wrap
itself : (a : Cents) → amount_of a.cents ≡ a
itself a = same_cents (amount_of a.cents) a (int_wrap_fits w64 a.cents (record { sfits = a.fits }))

pub sum_assoc : (a b c : Cents) → sum (sum a b) c ≡ sum a (sum b c)
sum_assoc a b c =
    let x = a.cents in
    let y = b.cents in
    let z = c.cents in
    same_cents (sum (sum a b) c) (sum a (sum b c)) (int_wrap-add_left w64 (x +ℤ y) z ∙ ap (int_wrap w64) (+ℤ_assoc x y z) ∙ sym (int_wrap-add_right w64 x (y +ℤ z)))

pub sum_left : (a : Cents) → sum nothing a ≡ a
unfolding int_wrap
sum_left a = ap amount_of (+ℤ_idl a.cents) ∙ itself a

pub sum_right : (a : Cents) → sum a nothing ≡ a
unfolding int_wrap
sum_right a = ap amount_of (+ℤ_idr a.cents) ∙ itself a
