-- The element stands for the record that is read, and for none if it is refused; what was built is read back.
use Rattle.std.proofs.Common.{◌≡◌, ◌⊎◌, inl, inr, refl, ap, Bool, true, Some, Result, Ok, Err, sym, subst, ◌∙◌}
use Rattle.zber.specs.AsnTags.{AsnTag}
use Rattle.zber.specs.Elements.{Element, tag_of}
use Rattle.zber.specs.Tags.{among}
use Rattle.zasn.specs.declared.error.PartError.{PartError}
use Rattle.zasn.specs.declared.error.PartError.TheVariants.{Misfit, Memory}
use Rattle.zasn.specs.Results.{MeaningResult}
use Rattle.zopac.specs.declared.opac.OpacRecord.{OpacRecord}
use Rattle.zopac.specs.Opacs.{WritesOpac, IsReadResult, OpacReadBack, whole_opac}

pub read_stands : (n : Element) (t : AsnTag) (b : Bool) (r : Result OpacRecord PartError) → tag_of n ≡ t
    → b ≡ among t whole_opac.tags → b ≡ true → MeaningResult (whole_opac.meaning n) r → IsReadResult n r
read_stands n t b (Ok v) is has there h =
    let tagged : among (tag_of n) whole_opac.tags ≡ true =
    subst (λ (u : AsnTag). among u whole_opac.tags ≡ true) (sym is) (sym has ∙ there) in
    whole_opac.reads v n tagged h
read_stands n t b (Err Misfit) is has there h =
    λ v w. let found : whole_opac.meaning n ≡ Some v = whole_opac.finds v n w in cc
read_stands n t b (Err Memory) is has there h = tt

pub one_opac : (v w : OpacRecord) (n : Element) → WritesOpac v n → WritesOpac w n → v ≡ w
one_opac v w n h k =
    let mine : whole_opac.meaning n ≡ Some v = whole_opac.finds v n h in
    let other : whole_opac.meaning n ≡ Some w = whole_opac.finds w n k in
    cc

back : (v : OpacRecord) (n : Element) (r : Result OpacRecord PartError) → WritesOpac v n → IsReadResult n r
    → (r ≡ Ok v) ⊎ (r ≡ Err Memory)
back v n (Ok w) h d = inl (ap (λ (x : OpacRecord). Ok x) (one_opac w v n d h))
back v n (Err Misfit) h d = absurd (d v h)
back v n (Err Memory) h d = inr refl

pub opac_back : OpacReadBack
opac_back = λ v n r e d. back v n r (whole_opac.makes v n e) d
