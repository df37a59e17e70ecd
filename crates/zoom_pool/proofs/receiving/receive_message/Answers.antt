use Rattle.std.proofs.Common.{◌≡◌, ◌≢◌, Bool, false, Result, Ok, Err, refl, sym, subst, true≢false}
use Rattle.std.specs.Prelude.{IsErr}
use Rattle.zber.specs.Elements.{Element}
use Rattle.zapdu.specs.declared.apdu.ApduError.{ApduError}
use Rattle.zapdu.specs.declared.apdu.ApduError.TheVariants as decode
use Rattle.zapdu.specs.Writes.{IsDecodeResult}
use Rattle.ztarget.specs.Receiving.{TargetState}
use Rattle.zoom_pool.specs.HostSteps.{ReceiveMessageResult}
use Rattle.zoom_pool.proofs.Hosts.{message_received, message_foreign}
use Rattle.zoom_pool.proofs.receiving.receive_message.Goals as goal

unreceived : {E : Type 0} (n : Element) (r : Result Bool E) (t : TargetState) → IsErr r → ReceiveMessageResult n r t t
unreceived n (Ok taken) t is = absurd (true≢false (sym is))
unreceived n (Err e) t is = refl

-- a message that is not read as an APDU
unread : {E : Type 0} (n : Element) (error : ApduError) (r : Result Bool E) (t : TargetState)
    → (error ≡ decode.Memory → IsErr r) → (error ≢ decode.Memory → r ≡ Ok false) → IsDecodeResult n (Err error)
    → ReceiveMessageResult n r t t
unread n decode.Memory r t memory refused d = unreceived n r t (memory refl)
unread n error r t memory refused d =
    let not : error ≢ decode.Memory = λ m. cc in
    subst (λ z. ReceiveMessageResult n z t t) (sym (refused not)) (message_foreign n error t not d)

pub returns-in-Ok : goal.returns-in-Ok
returns-in-Ok c = message_received c.args.node.now c.in-Ok.apdu c.receive_apdu-taken.result c.args.target.now c.receive_apdu-taken.new.target c.in-Ok.ensures c.receive_apdu-taken.ensures

pub returns-in-Err : goal.returns-in-Err
returns-in-Err c = unread c.args.node.now c.in-Err.error c.refused_message.result c.args.target.now
    c.refused_message.ensures.memory c.refused_message.ensures.refused c.in-Err.ensures
