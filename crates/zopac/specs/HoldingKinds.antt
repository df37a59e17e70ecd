-- HoldingsRecord (Z39.50-2003, Appendix REC: OPACRecord).
use Rattle.std.specs.Prelude.{◌≡◌, refl}
use Rattle.std.proofs.Common.{inl, inr}
use Rattle.zber.specs.AsnTags.{context}
use Rattle.zasn.specs.Place.{Place}
use Rattle.zasn.specs.Choice.{Choice, either, finally, Pick, picked}
use Rattle.zasn.specs.Places.{of_choice, within}
use Rattle.zapdu.specs.Productions.Externals.{external_parts}
use Rattle.zopac.specs.declared.holding.Holding.{Holding}
use Rattle.zopac.specs.declared.holding.Holding.TheVariants.{Marc, Copy}
use Rattle.zopac.specs.Holdings.{holdings_parts}

-- marcHoldingsRecord [1] IMPLICIT EXTERNAL, holdingsAndCirc [2] IMPLICIT HoldingsAndCircData
abbrev pub kinds_of_holding : Choice Holding
kinds_of_holding =
    either (within (context 1) external_parts) Marc
    (finally (within (context 2) holdings_parts) Copy)

-- which form of HoldingsRecord it is, marcHoldingsRecord first, and its value
abbrev pub holding_pick : Holding → Pick kinds_of_holding
holding_pick (Marc v) = inl v
holding_pick (Copy v) = inr v

pub holding-same : (h : Holding) → picked kinds_of_holding (holding_pick h) ≡ h
holding-same (Marc v) = refl
holding-same (Copy v) = refl

pub holding-back : (x : Pick kinds_of_holding) → holding_pick (picked kinds_of_holding x) ≡ x
holding-back (inl v) = refl
holding-back (inr v) = refl

-- HoldingsRecord, one entry of holdingsData: the tag [1] or [2] gives its form
abbrev pub holding : Place Holding
holding = of_choice kinds_of_holding holding_pick holding-same holding-back refl
