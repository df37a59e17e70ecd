-- What `==` of the keys of sets says.
use Rattle.std.proofs.Common.{◌≡◌, ◌&&◌, eqb, ap}
use Rattle.std.specs.Bool.{Decides}
use Rattle.std.proofs.lemmas.Bool.Decides.{Decides-and, Decides-eqb, Decides-like}
use Rattle.zknow.specs.declared.tables.keys.SetKey.{SetKey}

pub keys_decide : (a b : SetKey) → Decides (eqb a.target b.target && eqb a.set b.set) (a ≡ b)
keys_decide a b =
    Decides-like (eqb a.target b.target && eqb a.set b.set) (λ h i. record { target = h.0 i; set = h.1 i })
    (λ same. (ap (λ (k : SetKey). k.target) same, ap (λ (k : SetKey). k.set) same))
    (Decides-and (eqb a.target b.target) (eqb a.set b.set) (Decides-eqb a.target b.target) (Decides-eqb a.set b.set))
