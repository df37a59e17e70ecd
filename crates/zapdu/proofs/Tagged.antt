-- Elements with another tag.
use Rattle.std.proofs.Common.{◌≡◌, Bool, true, false, List, subst}
use Rattle.zber.specs.AsnTags.{AsnTag}
use Rattle.zber.specs.Elements.{Element, tag_of}
use Rattle.zber.specs.Tags.{among}

pub not_there : (e : Element) (t : AsnTag) (tags : List AsnTag) (b : Bool) → tag_of e ≡ t → b ≡ among t tags → b ≡ false → among (tag_of e) tags ≡ true → ⊥
not_there e t tags b is has other h = let there : among t tags ≡ true = subst (λ (u : AsnTag). among u tags ≡ true) is h in cc
