use Rattle.std.proofs.Common.{◌≡◌, ◌≢◌, ℕ, List, Err, refl, sym, subst}
use Rattle.zber.specs.Elements.{Element}
use Rattle.zapdu.specs.declared.apdu.ApduError.{ApduError}
use Rattle.zapdu.specs.declared.apdu.ApduError.TheVariants as decode
use Rattle.zapdu.specs.Writes.{IsDecodeResult}
use Rattle.zknow.specs.declared.fact.Fact.{Fact}
use Rattle.zoom_pool.specs.declared.step.TakeError.{TakeError}
use Rattle.zoom_pool.specs.declared.step.TakeError.TheVariants as errors
use Rattle.zorigin.specs.Standings.{Standing}
use Rattle.zoom_pool.specs.Inputs.{Message}
use Rattle.zoom_pool.specs.Steps.{ProcessStep}
use Rattle.zoom_pool.proofs.Taking.{outcome_part, process_foreign}
use Rattle.zoom_pool.proofs.Unions.{part_none}
use Rattle.zoom_pool.proofs.processing.process.Goals as goal

-- a message that is not read as an APDU, with the error of its take
foreign_step : (target : ℕ) (e : Element) (error : ApduError) (given : TakeError) (o : Standing) (ks : List Fact)
    → (error ≡ decode.Memory → given ≡ errors.Memory) → (error ≢ decode.Memory → given ≡ errors.Decode error)
    → IsDecodeResult e (Err error) → ProcessStep target e (Err given) o o ks ks
foreign_step target e decode.Memory given o ks memory other d = λ p a done. absurd (done (memory refl))
foreign_step target e error given o ks memory other d = λ p a done.
    let not : error ≢ decode.Memory = λ m. cc in
    subst (λ g. ProcessStep target e (Err g) o o ks ks) (sym (other not))
    (λ q b more. process_foreign target q e error o ks not d b) p a done

pub returns-in-Ok-clause-part : goal.returns-in-Ok-clause-part
returns-in-Ok-clause-part c = λ p a e. outcome_part c.args.target p c.args.node.now (Message c.in-Ok.reply) _ _
    c.in-Ok.ensures (c.process_reply-outcome.ensures.part p a e)

pub returns-in-Err-clause-done : goal.returns-in-Err-clause-done
returns-in-Err-clause-done c = foreign_step c.args.target c.args.node.now c.in-Err.error c.decode_error.result
    c.args.origin.now c.args.knowledge.now c.decode_error.ensures.memory c.decode_error.ensures.decode c.in-Err.ensures

pub returns-in-Err-clause-part : goal.returns-in-Err-clause-part
returns-in-Err-clause-part c = λ p a e. part_none c.args.knowledge.now
