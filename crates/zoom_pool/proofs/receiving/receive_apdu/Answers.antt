use Rattle.std.proofs.Common.{◌≡◌, ◌≢◌, Bool, false, List, Result, Ok, Err, refl, sym, subst, true≢false}
use Rattle.std.specs.Prelude.{IsErr}
use Rattle.zapdu.specs.declared.apdu.Apdu.{Apdu}
use Rattle.ztarget.specs.declared.database.Database.{Database}
use Rattle.ztarget.specs.declared.settings.TargetSettings.{TargetSettings}
use Rattle.ztarget.specs.declared.error.TargetError.{TargetError}
use Rattle.ztarget.specs.declared.error.TargetError.TheVariants as refusals
use Rattle.ztarget.specs.Receiving.{TargetState, TargetReceiveStep, AfterReceive, After as TargetAfter}
use Rattle.zoom_pool.specs.HostSteps.{ReceiveApduResult}
use Rattle.zoom_pool.proofs.receiving.receive_apdu.Goals as goal

-- what the target's error says of the APDU, for all that it can have received
abbrev IsReceiveError : Apdu → TargetError → TargetState → TargetState → Type 0
IsReceiveError v error old new =
    (databases : List Database) (settings : TargetSettings) (received released : List Apdu)
    → TargetAfter databases settings received released old
    → AfterReceive databases settings received released v (Err error) old new

unreceived : {E : Type 0} (v : Apdu) (r : Result Bool E) (old new : TargetState) → new ≡ old → IsErr r → ReceiveApduResult v r old new
unreceived v (Ok taken) old new same is = absurd (true≢false (sym is))
unreceived v (Err e) old new same is = same

-- an error leaves the target unchanged
unchanged : (v : Apdu) (error : TargetError) (old new : TargetState) → TargetReceiveStep old v (Err error) new → new ≡ old
unchanged v refusals.Memory old new step = step
unchanged v error old new step = step.1

-- an APDU that the target did not take
untaken : {E : Type 0} (v : Apdu) (error : TargetError) (r : Result Bool E) (old new : TargetState)
    → (error ≡ refusals.Memory → IsErr r) → (error ≢ refusals.Memory → r ≡ Ok false) → new ≡ old
    → IsReceiveError v error old new → ReceiveApduResult v r old new
untaken v refusals.Memory r old new memory refused same answers = unreceived v r old new same (memory refl)
untaken v error r old new memory refused same answers =
    let not : error ≢ refusals.Memory = λ m. cc in
    subst (λ z. ReceiveApduResult v z old new) (sym (refused not))
    (same, λ holdings received released a. (error, (answers holdings.databases holdings.settings received released a).1))

pub returns-in-Err : goal.returns-in-Err
returns-in-Err c = untaken c.args.apdu.now c.in-Err.error c.refused_apdu.result c.args.target.now c.receive.new.self
    c.refused_apdu.ensures.memory c.refused_apdu.ensures.refused (unchanged c.args.apdu.now c.in-Err.error c.args.target.now
    c.receive.new.self c.in-Err.ensures.receives) c.in-Err.ensures.replies
