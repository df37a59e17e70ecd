-- How a target's answering ends.
use Rattle.std.proofs.Common.{◌≡◌, ◌∙◌, sym, subst, inl, inr, ◌⊎◌, ℕ, suc, ◌+◌, ◌<◌, ◌≤◌, Bool, true, false, List, [], ◌++◌, Ok, Err, refl, true≢false, arith}
use Rattle.std.specs.Prelude.{◌||◌}
use Rattle.std.specs.Io.KnownBytes.{Keeps}
use Rattle.std.proofs.KnownBytes.{Consumes-kept, Consumes-nil, Appends-nil}
use Rattle.zoom_pool.specs.Hosts.{HostState, HostAfter, Holdings, HostEvent}
use Rattle.zoom_devices.specs.Devices.{DeviceState, HasFailed, HasNoFailure}
use Rattle.zoom_io.specs.declared.replies.AnswerError.{AnswerError}
use Rattle.zoom_io.specs.declared.replies.AnswerError.TheVariants as errors
use Rattle.zoom_io.specs.Answering.{HasReleasedAll, HasAnsweredAll, IsReady, IsServed, nothing, Exchange, ReplyStep, AfterReplyAll, AfterReadPiece, AfterAnswer}

-- After every history that can have left the serving end, there is an exchange with n reads.
pub record Begun (n : ℕ) (old new : HostState) (source left sink held : DeviceState) : Type 0 where
  pub on : (holdings : Holdings) (events : List HostEvent) → HostAfter holdings events old
      → Exchange holdings events n new source left sink held
  pub reader : HasNoFailure source left
  pub writer : HasNoFailure sink held

pub begun : (h : HostState) (source sink : DeviceState) → Begun 0 h h source source sink sink
begun h source sink = record {
  on = λ holdings events a. record {
    more = [];
    read = [];
    written = [];
    exchanges = nothing;
    after = a;
    consumed = Consumes-nil source.octets;
    appended = Appends-nil sink.octets;
  };
  reader = refl;
  writer = refl;
}

-- The same, with all replies written.
pub record Answered (n : ℕ) (old new : HostState) (source left sink held : DeviceState) : Type 0 where
  pub begun : Begun n old new source left sink held
  pub all : (holdings : Holdings) (events : List HostEvent) → HostAfter holdings events old → HasAnsweredAll new

pub begun_replied : (n : ℕ) (a b d : HostState) (l l2 k k2 k3 : DeviceState) → Begun n a b l l2 k k2
    → ReplyStep b d k2 k3 → Answered n a d l l2 k k3
begun_replied n a b d l l2 k k2 k3 one r = record {
  begun = record {
    on = λ holdings events x. (r.on l2).on holdings events n l k (one.on holdings events x);
    reader = one.reader;
    writer = (r.on l2).writer ∙ one.writer;
  };
  all = λ holdings events x.
      let y = one.on holdings events x in
      r.answered holdings (y.more ++ events) y.after;
}

module _ (n reads : ℕ) (old new : HostState) (l l2 k k2 : DeviceState) (one : Answered n old new l l2 k k2) where
  done : (a b : Bool) → (a || b) ≡ true → (a ≡ true) ⊎ (b ≡ true)
  done true b e = inl refl
  done false b e = inr e

  undone : (a b : Bool) → (a || b) ≡ false → (a ≡ false) × (b ≡ false)
  undone true b e = absurd (true≢false e)
  undone false b e = (refl, e)

  -- If it is not done, it is ready.
  ready : (new.stopped || new.closed) ≡ false → (holdings : Holdings) (events : List HostEvent)
      → HostAfter holdings events old → IsReady new
  ready e holdings events a =
      let on = undone new.stopped new.closed e in
      let all = one.all holdings events a in
      record { going = on.0; unclosed = on.1; none_pending = none on.0 all.released; none_waits = all.none_waits }
    where
      none : new.stopped ≡ false → HasReleasedAll new → new.target.pending ≡ []
      none g (inl stopped) = absurd (true≢false (sym stopped ∙ g))
      none g (inr all) = all

  pub answers_done : n ≤ reads → (new.stopped || new.closed) ≡ true → AfterAnswer reads (Ok tt) old new l l2 k k2
  answers_done few e =
      let served : IsServed new = done new.stopped new.closed e in
      record {
        on = λ holdings events x.
            (n, inr (few, served, one.all holdings events x), one.begun.on holdings events x);
        end = (inr served, one.begun.reader, one.begun.writer);
      }

  pub answers_turns : n ≡ reads → (new.stopped || new.closed) ≡ false
      → AfterAnswer reads (Err errors.Turns) old new l l2 k k2
  answers_turns all e =
      let on = undone new.stopped new.closed e in
      record {
        on = λ holdings events x. (
          ready e holdings events x,
          subst (λ z. Exchange holdings events z new l l2 k k2) all (one.begun.on holdings events x),
        );
        end = (on.0, on.1, one.begun.reader, one.begun.writer);
      }

  module _ (e : (new.stopped || new.closed) ≡ false) (later : HostState) (l3 : DeviceState) where
    -- A read gave nothing more.
    unread : later ≡ new → Keeps l2.octets l3.octets → (holdings : Holdings) (events : List HostEvent)
        → HostAfter holdings events old → IsReady later × Exchange holdings events n later l l3 k k2
    unread is still holdings events a =
        let x = one.begun.on holdings events a in
        subst (λ z. IsReady z × Exchange holdings events n z l l3 k k2) (sym is) (
          ready e holdings events a,
          record {
            more = x.more;
            read = x.read;
            written = x.written;
            exchanges = x.exchanges;
            after = x.after;
            consumed = Consumes-kept l.octets l2.octets l3.octets x.read x.consumed still;
            appended = x.appended;
          },
        )

    -- A piece was read.
    pub piece_on : (r : Bool) → AfterReadPiece (Ok r) new later l2 l3 → r ≡ true → Begun (n + 1) old later l l3 k k2
    piece_on true p is =
        let one_more : suc n ≡ n + 1 = omega arith in
        subst (λ z. Begun z old later l l3 k k2) one_more (record {
          on = λ holdings events a.
              p.on holdings events n l k k2 (one.begun.on holdings events a) (ready e holdings events a);
          reader = p.reader ∙ one.begun.reader;
          writer = one.begun.writer;
        })
    piece_on false p is = absurd (true≢false (sym is))

    -- The input ends.
    pub answers_end : n < reads → (r : Bool) → AfterReadPiece (Ok r) new later l2 l3 → r ≡ false
        → AfterAnswer reads (Ok tt) old later l l3 k k2
    answers_end few true p is = absurd (true≢false is)
    answers_end few false p is = record {
      on = λ holdings events a.
          let x = unread p.0 p.1.octets holdings events a in
          (n, inl (few, p.2, x.0), x.1);
      end = (inl p.2, p.1.failures ∙ one.begun.reader, one.begun.writer);
    }

    -- A read fails, or no memory is found.
    pub piece_failed : n < reads → (e : AnswerError) → AfterReadPiece (Err e) new later l2 l3
        → AfterAnswer reads (Err e) old later l l3 k k2
    piece_failed few errors.Read p = record {
      on = λ holdings events a.
          let x = unread p.0 p.1 holdings events a in
          (n, few, x.0, x.1);
      end = (subst (λ z. HasFailed z l3.failures) one.begun.reader p.2, one.begun.writer);
    }
    piece_failed few errors.Write p = absurd p
    piece_failed few errors.Turns p = absurd p
    piece_failed few errors.Memory p = record {
      on = λ holdings events a. (
        suc n,
        omega (arith, few),
        p.on holdings events n l k k2 (one.begun.on holdings events a) (ready e holdings events a),
      );
      end = (p.reader ∙ one.begun.reader, one.begun.writer);
    }

-- Writing the replies fails, or no memory is found for them.
pub replies_end : (n reads : ℕ) (old mid new : HostState) (l l2 k k2 k3 : DeviceState) → Begun n old mid l l2 k k2
    → n ≤ reads → (e : AnswerError) → AfterReplyAll (Err e) mid new k2 k3 → AfterAnswer reads (Err e) old new l l2 k k3
replies_end n reads old mid new l l2 k k2 k3 one few errors.Read p = absurd p
replies_end n reads old mid new l l2 k k2 k3 one few errors.Turns p = absurd p
replies_end n reads old mid new l l2 k k2 k3 one few errors.Write p = record {
  on = λ holdings events a. (n, few, p.on holdings events n l l2 k (one.on holdings events a));
  end = (subst (λ z. HasFailed z k3.failures) one.writer p.failed, one.reader);
}
replies_end n reads old mid new l l2 k k2 k3 one few errors.Memory p =
    subst (λ z. AfterAnswer reads (Err errors.Memory) old new l l2 k z) (sym p.1) (record {
      on = λ holdings events a. (n, few, (p.0 l2).on holdings events n l k (one.on holdings events a));
      end = (one.reader, one.writer);
    })
