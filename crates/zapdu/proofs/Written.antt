-- What is spelled is written.
use Rattle.std.proofs.Common.{Result, Ok, Err}
use Rattle.zber.specs.AsnTags.{context}
use Rattle.zber.specs.Elements.{Element}
use Rattle.zasn.specs.Place.{Place}
use Rattle.zasn.specs.declared.error.BuildError.{BuildError}
use Rattle.zasn.specs.declared.error.BuildError.TheVariants.{NotSpellable, Memory}
use Rattle.zasn.specs.Results.{WritingResult, BuildResult}
use Rattle.zasn.specs.Places.{within}
use Rattle.zapdu.specs.declared.apdu.Apdu.{Apdu}
use Rattle.zapdu.specs.declared.apdu.Apdu.TheVariants as apdus
use Rattle.zapdu.specs.Productions.InitRequests.{init_request_parts}
use Rattle.zapdu.specs.Productions.InitResponses.{init_response_parts}
use Rattle.zapdu.specs.Productions.SearchRequests.{search_request_parts}
use Rattle.zapdu.specs.Productions.SearchResponses.{search_response_parts}
use Rattle.zapdu.specs.Productions.PresentRequests.{present_request_parts}
use Rattle.zapdu.specs.Productions.PresentResponses.{present_response_parts}
use Rattle.zapdu.specs.Productions.Closes.{close_parts}
use Rattle.zapdu.specs.Writes.{Writes, apdu_spelling}

pub place_written : {A : Type 0} (p : Place A) (v : A) (r : Result Element BuildError) → BuildResult (p.spelling v) r → WritingResult (p.writes v) r
place_written p v (Ok n) h = p.makes v n h
place_written p v (Err NotSpellable) h = p.none v h
place_written p v (Err Memory) h = tt

pub apdu_written : (v : Apdu) (r : Result Element BuildError) → BuildResult (apdu_spelling v) r → WritingResult (Writes v) r
apdu_written (apdus.InitRequest v) r h = place_written (within (context 20) init_request_parts) v r h
apdu_written (apdus.InitResponse v) r h = place_written (within (context 21) init_response_parts) v r h
apdu_written (apdus.SearchRequest v) r h = place_written (within (context 22) search_request_parts) v r h
apdu_written (apdus.SearchResponse v) r h = place_written (within (context 23) search_response_parts) v r h
apdu_written (apdus.PresentRequest v) r h = place_written (within (context 24) present_request_parts) v r h
apdu_written (apdus.PresentResponse v) r h = place_written (within (context 25) present_response_parts) v r h
apdu_written (apdus.Close v) r h = place_written (within (context 48) close_parts) v r h
