-- Hosts do not touch one another: at once, the same becomes of a connection of which the same was told.
use Rattle.std.proofs.Common.{◌≡◌, ℕ, ◌<◌, true, List, length, slice_get, Option, Some, refl, sym, subst, ◌∙◌, true≢false}
use Rattle.std.proofs.lemmas.Option.{slice_get_within}
use Rattle.zplan.specs.Positions.{IsWanted}
use Rattle.zplan.specs.Ranges.{positions}
use Rattle.zoom_questions.specs.declared.question.Question.{Question}
use Rattle.zoom_pool.specs.Transcripts.{IsTranscript}
use Rattle.zoom_pool.specs.History.{events_on}
use Rattle.zoom_pool.specs.Metas.{settings_of}
use Rattle.zoom_pool.proofs.Metas.{transcript_at}
use Rattle.zoom_pool.proofs.MetaLaws.{driver_of}
use Rattle.zoom_asking.specs.declared.asking.Asking.{Asking}
use Rattle.zoom_asking.specs.declared.inquiry.AskedHost.{AskedHost}
use Rattle.zoom_asking.specs.declared.inquiry.Manner.{Manner}
use Rattle.zoom_asking.specs.declared.inquiry.Manner.TheVariants as manners
use Rattle.zoom_asking.specs.Inquiries.{Inquiry, is_at_once, own}
use Rattle.zoom_asking.specs.Hosts.{AskedConnection, AskedAfter, first_host}
use Rattle.zoom_asking.specs.Askings.{Holds}
use Rattle.zoom_asking.specs.Laws.{AgreeOn, AskedOn, IsolationLaw}
use Rattle.zoom_asking.proofs.Owning.{own_of}
use Rattle.zoom_asking.proofs.Steady.{AreSound}
use Rattle.zoom_asking.proofs.AlikeDrives.{Laws}
use Rattle.zoom_asking.proofs.SameHosts.{twins}

-- what an asking knows of a connection: its calls were its driver's, and how many positions one Present asks for
record IsKnown (i : Inquiry) (question : Question) (h : AskedConnection) : Type 0 where
  pub sound : AreSound i.settings question h.events
  pub wanted : IsWanted (positions question.wanted)
  pub steps : 0 < i.settings.step

known : (i : Inquiry) (hosts : List AskedConnection) (a : Asking) (c : ℕ) (question : Question) (h : AskedConnection)
    → Holds i hosts a → slice_get i.questions c ≡ Some question → slice_get hosts c ≡ Some h → IsKnown i question h
known i hosts a c question h k asked at =
    let meta = k.meta in
    let p = meta.pool.transcript c in
    let lt : c < length a.meta.pool.connections =
    subst (λ n. c < n) (sym meta.size) (slice_get_within i.questions c question asked) in
    let is : IsTranscript (settings_of i.settings) (events_on c k.pool) p =
    transcript_at (settings_of i.settings) k.pool meta.pool.transcript a.meta.pool.connections c meta.pool.stands lt in
    let d = driver_of i.questions a.meta.drivers c question meta.driven.size asked in
    let drives = meta.driven.each c question d.0 p asked d.1 is in
    record {
      sound = subst (AreSound i.settings question) (k.events c h at)
          (record { transcript = p; is = is; steady = (drives.steered, drives.driven) });
      wanted = drives.wanted;
      steps = drives.steps;
    }

-- all inquiries at once have one manner
one_manner : (m n : Manner) → is_at_once m ≡ true → is_at_once n ≡ true → m ≡ n
one_manner manners.AtOnce manners.AtOnce x y = refl
one_manner manners.AtOnce manners.InOrder x y = absurd (true≢false (sym y))
one_manner manners.InOrder n x y = absurd (true≢false (sym x))

-- a connection on which two inquiries agree begins the same in both
same_first : (c : ℕ) (i j : Inquiry) (host : Option AskedHost) → AgreeOn c i j → first_host j host ≡ first_host i host
same_first c i j host g =
    let manner = one_manner j.manner i.manner g.second g.first in
    λ k. first_host (record {
      questions = i.questions;
      settings = i.settings;
      hosts = i.hosts;
      manner = manner k;
      total = sym g.total k;
      start = sym g.start k;
    }) host

pub isolation_of : Laws → IsolationLaw
isolation_of l c i j g h one other x y asks agree same a b at there =
    let question = asks.question in
    let host = asks.host in
    let also : AskedOn j c = record {
      question = question;
      host = host;
      has_question = sym agree.question ∙ asks.has_question;
      has_host = sym agree.host ∙ asks.has_host;
    } in
    let first = own_of i g a.hosts c x asks agree.first a.after at in
    let second = own_of j h b.hosts c y also agree.second b.after there in
    let here = known i a.hosts one c question x a.holds asks.has_question at in
    let beyond = known j b.hosts other c question y b.holds also.has_question there in
    let t = twins l i.settings question here.wanted here.steps i j host refl (sym agree.settings)
    (same_first c i j host agree) (own c i.start g) x y first
    (subst (λ es. AskedAfter j host question es y) (sym same) second) here.sound
    (subst (λ s. AreSound s question y.events) (sym agree.settings) beyond.sound) in
    record { course = t.course; tasks = t.tasks; events = t.kept.same.alike }
