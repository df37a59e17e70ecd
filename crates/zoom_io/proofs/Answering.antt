-- What a target's answering does to an exchange.
use Rattle.std.proofs.Common.{◌≡◌, ◌∙◌, sym, subst, inl, inr, ◌⊎◌, ℕ, ◌+◌, ◌-◌, ◌^◌, ◌<◌, ◌≤◌, true, false, List, [], ◌∷◌, ◌++◌, length, Result, Ok, Err, refl, arith}
use Rattle.std.specs.Io.KnownBytes.{Appends, Consumes}
use Rattle.std.proofs.KnownBytes.{Consumes-trans, Consumes-nil, Appends-trans, Appends-nil}
use Rattle.ztarget.specs.Receiving.{may_release}
use Rattle.zoom_pool.specs.Hosts.{HostState, HostAfter, Holdings, HostEvent, HostFed, HostFedPart, Released, Lost, HostHandedOut, HostRecorded, HasNoReply, ReleaseResult}
use Rattle.zoom_devices.specs.Devices.{DeviceState, HasNoFailure}
use Rattle.zoom_io.specs.TalkTraces.{same}
use Rattle.zoom_io.specs.declared.replies.AnswerError.{AnswerError}
use Rattle.zoom_io.specs.declared.replies.AnswerError.TheVariants as errors
use Rattle.zoom_io.specs.Answering.{nothing, fed, released, lost, handed, unhanded, unfed, unreleased, too_many, Exchange, ExchangeStep, StarvedExchange, AfterRelease, LeavesNoReply, AfterReleaseAll, WriteStep, AfterWriteReplies, ReplyStep, AfterReplyAll, PieceStep, UnfedPiece}
use Rattle.zoom_io.proofs.LastClose.{none_pending, released_still}

on_trans : (f g : ℕ → ℕ) (a b d : HostState) (l l2 l3 k k2 k3 : DeviceState) → ExchangeStep f a b l l2 k k2
    → ExchangeStep g b d l2 l3 k2 k3 → ExchangeStep (λ n. g (f n)) a d l l3 k k3
on_trans f g a b d l l2 l3 k k2 k3 one two = record {
  on = λ holdings events reads source sink x.
      two.on holdings events (f reads) source sink (one.on holdings events reads source sink x);
  reader = two.reader ∙ one.reader;
  writer = two.writer ∙ one.writer;
}

-- ---- replies are released

-- At least n replies were released, after every exchange that leads to the old state.
pub record Releases (n : ℕ) (old new : HostState) : Type 0 where
  pub on : (holdings : Holdings) (events : List HostEvent) (reads : ℕ) (source left sink held : DeviceState)
      → Exchange holdings events reads old source left sink held
      → (y : Exchange holdings events reads new source left sink held) × (n ≤ length y.more)

pub releases_none : (h : HostState) → Releases 0 h h
releases_none h = record { on = λ holdings events reads source left sink held x. (x, omega arith) }

-- One reply more is released.
pub releases_more : (n : ℕ) (old mid new : HostState) → Releases n old mid → HostRecorded (Released 0) mid new
    → Releases (n + 1) old new
releases_more n old mid new before u = record {
  on = λ holdings events reads source left sink held x.
      let y = before.on holdings events reads source left sink held x in
      let many : n ≤ length y.0.more = y.1 in (
        record {
          more = Released 0 ∷ y.0.more;
          read = y.0.read;
          written = y.0.written;
          exchanges = released y.0.exchanges;
          after = u holdings (y.0.more ++ events) y.0.after;
          consumed = y.0.consumed;
          appended = y.0.appended;
        },
        omega (arith, many),
      );
}

releases_lost : (n : ℕ) (old mid new : HostState) → Releases n old mid → HostRecorded (Lost 0) mid new → AfterRelease old new
releases_lost n old mid new before u left held = record {
  on = λ holdings events reads source sink x.
      let y = before.on holdings events reads source left sink held x in
      record {
        more = Lost 0 ∷ y.0.more;
        read = y.0.read;
        written = y.0.written;
        exchanges = lost y.0.exchanges;
        after = u holdings (y.0.more ++ events) y.0.after;
        consumed = y.0.consumed;
        appended = y.0.appended;
      };
  reader = refl;
  writer = refl;
}

releases_on : (n : ℕ) (old new : HostState) → Releases n old new → AfterRelease old new
releases_on n old new r left held = record {
  on = λ holdings events reads source sink x. (r.on holdings events reads source left sink held x).0;
  reader = refl;
  writer = refl;
}

-- Nothing more may be released, so no reply is left.
none_left : (mid new : HostState) → HasNoReply mid 0 new → LeavesNoReply new
none_left mid new none = subst LeavesNoReply (sym none.1) (by none.0)
  where
    by : (mid.stopped ≡ true) ⊎ (may_release mid.target.pending 0 ≡ false) → LeavesNoReply mid
    by (inl stopped) holdings events a = inl stopped
    by (inr may) holdings events a = inr (none_pending holdings events mid a may)

-- The last reply was not released: none is left, or it was too long.
pub releases_all : (E : Type 0) (n : ℕ) (old mid new : HostState) → Releases n old mid
    → ReleaseResult {E = E} 0 (Ok false) mid new → AfterReleaseAll {E = E} (Ok tt) old new
releases_all E n old mid new before (inl none) =
    (subst (AfterRelease old) (sym none.1) (releases_on n old mid before), none_left mid new none)
releases_all E n old mid new before (inr long) =
    (releases_lost n old mid new before long.1, λ holdings events a. inl long.0.stopped)

-- No memory is found for a reply, after others were released.
pub releases_starve : (E : Type 0) (e : E) (n : ℕ) (old mid new : HostState) → Releases n old mid
    → ReleaseResult {E = E} 0 (Err e) mid new → AfterReleaseAll {E = E} (Err e) old new
releases_starve E e n old mid new before r left held = record {
  on = λ holdings events reads source sink x.
      let y = before.on holdings events reads source left sink held x in
      record {
        more = Lost 0 ∷ y.0.more;
        read = y.0.read;
        written = y.0.written;
        starves = unreleased y.0.exchanges r.0;
        after = r.1 holdings (y.0.more ++ events) y.0.after;
        consumed = y.0.consumed;
        appended = y.0.appended;
      };
}

-- More replies were released than memory can hold.
pub releases_many : (E : Type 0) (e : E) (n : ℕ) (old new : HostState) → n ≡ 2 ^ 64 - 1 → Releases n old new
    → AfterReleaseAll {E = E} (Err e) old new
releases_many E e n old new most before left held = record {
  on = λ holdings events reads source sink x.
      let y = before.on holdings events reads source left sink held x in
      record {
        more = y.0.more;
        read = y.0.read;
        written = y.0.written;
        starves = too_many y.0.exchanges (subst (λ z. z ≤ length y.0.more) most y.1);
        after = y.0.after;
        consumed = y.0.consumed;
        appended = y.0.appended;
      };
}

-- ---- replies are written

pub on_handed : (old new : HostState) (sink held : DeviceState) → HostRecorded (HostHandedOut old.waiting) old new
    → new.waiting ≡ [] → Appends sink.octets held.octets old.waiting → HasNoFailure sink held → WriteStep old new sink held
on_handed old new sink held u none appended sound = record {
  on = λ left. record {
    on = λ holdings events reads source first x. record {
      more = HostHandedOut old.waiting ∷ x.more;
      read = x.read;
      written = x.written ++ old.waiting;
      exchanges = handed old.waiting x.exchanges;
      after = u holdings (x.more ++ events) x.after;
      consumed = x.consumed;
      appended = Appends-trans first.octets sink.octets held.octets x.written old.waiting x.appended appended;
    };
    reader = refl;
    writer = sound;
  };
  released = λ holdings events a r. released_still holdings events old.waiting old new a (u holdings events a) r;
  none_waits = none;
}

module _ (old mid new : HostState) (one : AfterRelease old mid × LeavesNoReply mid) (sink held : DeviceState) where
  -- The history after the replies were released.
  released_at : (holdings : Holdings) (events : List HostEvent) → HostAfter holdings events old
      → (later : List HostEvent) × HostAfter holdings later mid
  released_at holdings events a =
      let x = (one.0 sink sink).on holdings events 0 sink sink (record {
        more = [];
        read = [];
        written = [];
        exchanges = nothing;
        after = a;
        consumed = Consumes-nil sink.octets;
        appended = Appends-nil sink.octets;
      }) in
      (x.more ++ events, x.after)

  replies_on : WriteStep mid new sink held → ReplyStep old new sink held
  replies_on w = record {
    on = λ left. on_trans same same old mid new left left left sink sink held (one.0 left sink) (w.on left);
    answered = λ holdings events a.
        let at = released_at holdings events a in
        record {
          released = w.released holdings at.0 at.1 (one.1 holdings at.0 at.1);
          none_waits = w.none_waits;
        };
  }

  -- A write fails, or no memory is found.
  replies_failed : (e : AnswerError) → AfterWriteReplies (Err e) mid new sink held → AfterReplyAll (Err e) old new sink held
  replies_failed errors.Read h = absurd h
  replies_failed errors.Turns h = absurd h
  replies_failed errors.Write h = record {
    on = λ holdings events reads source left first x.
        let y = (one.0 left sink).on holdings events reads source first x in
        record {
          host = mid;
          before = sink;
          exchange = y;
          released = one.1 holdings (y.more ++ events) y.after;
          unwritten = h;
        };
    failed = h.failed;
  }
  replies_failed errors.Memory h = (
    λ left. record {
      on = λ holdings events reads source first x.
          let y = (one.0 left sink).on holdings events reads source first x in
          subst (λ z. StarvedExchange holdings events reads z source left first sink) (sym h.0) (record {
            more = y.more;
            read = y.read;
            written = y.written;
            starves = unhanded y.exchanges (one.1 holdings (y.more ++ events) y.after);
            after = y.after;
            consumed = y.consumed;
            appended = y.appended;
          });
    },
    h.1,
  )

  pub replies_result : (r : Result (Unit {0}) AnswerError) → AfterWriteReplies r mid new sink held → AfterReplyAll r old new sink held
  replies_result (Ok u) h = replies_on h
  replies_result (Err e) h = replies_failed e h

-- ---- a piece is read

pub on_fed : (old new : HostState) (piece : List ℕ) (l l2 : DeviceState) → HostRecorded (HostFed piece) old new
    → Consumes l.octets l2.octets piece → HasNoFailure l l2 → 0 < length piece → length piece ≤ 4096
    → PieceStep old new l l2
on_fed old new piece l l2 u consumed sound some few = record {
  on = λ holdings events reads source sink held x ready. record {
    more = HostFed piece ∷ x.more;
    read = x.read ++ piece;
    written = x.written;
    exchanges = fed piece old x.exchanges x.after ready some few;
    after = u holdings (x.more ++ events) x.after;
    consumed = Consumes-trans source.octets l.octets l2.octets x.read piece x.consumed consumed;
    appended = x.appended;
  };
  reader = sound;
}

-- No memory is found for a piece.
pub starves_unfed : (old new : HostState) (piece : List ℕ) (l l2 : DeviceState) → HostRecorded (HostFedPart piece) old new
    → new.stopped ≡ true → Consumes l.octets l2.octets piece → HasNoFailure l l2 → 0 < length piece
    → length piece ≤ 4096 → UnfedPiece old new l l2
starves_unfed old new piece l l2 u stopped consumed sound some few = record {
  on = λ holdings events reads source sink held x ready. record {
    more = HostFedPart piece ∷ x.more;
    read = x.read ++ piece;
    written = x.written;
    starves = unfed piece old x.exchanges x.after ready some few stopped;
    after = u holdings (x.more ++ events) x.after;
    consumed = Consumes-trans source.octets l.octets l2.octets x.read piece x.consumed consumed;
    appended = x.appended;
  };
  reader = sound;
}
