-- Record composition (Z39.50-2003, 4.1: PresentRequest).
use Rattle.std.specs.Prelude.{◌≡◌, refl}
use Rattle.std.proofs.Common.{inl, inr}
use Rattle.zber.specs.AsnTags.{context}
use Rattle.zasn.specs.Place.{Place}
use Rattle.zasn.specs.Choice.{Choice, either, finally, Pick, picked}
use Rattle.zasn.specs.Places.{of_choice, explicit, opaque}
use Rattle.zapdu.specs.declared.productions.record_composition.RecordComposition.{RecordComposition}
use Rattle.zapdu.specs.declared.productions.record_composition.RecordComposition.TheVariants.{Simple, Complex}
use Rattle.zapdu.specs.Productions.ElementSets.{element_set_names}

-- simple [19] ElementSetNames, whose tag is explicit, complex [209] IMPLICIT CompSpec
abbrev pub compositions : Choice RecordComposition
compositions =
    either (explicit (context 19) element_set_names) Simple
    (finally (opaque (context 209)) Complex)

-- which form of record composition it is, simple first, and its value
abbrev pub composition_pick : RecordComposition → Pick compositions
composition_pick (Simple v) = inl v
composition_pick (Complex m) = inr m

pub composition-same : (c : RecordComposition) → picked compositions (composition_pick c) ≡ c
composition-same (Simple v) = refl
composition-same (Complex m) = refl

pub composition-back : (x : Pick compositions) → composition_pick (picked compositions x) ≡ x
composition-back (inl v) = refl
composition-back (inr m) = refl

-- recordComposition of a PresentRequest: the tag [19] or [209] gives its form
abbrev pub record_composition : Place RecordComposition
record_composition = of_choice compositions composition_pick composition-same composition-back refl
