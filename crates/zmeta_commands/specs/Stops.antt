-- Why connections stopped, as people and programs are told.
use Rattle.std.specs.Prelude.{◌≡◌, ℕ, ◌/◌, List, [], ◌∷◌, ◌++◌, length, slice_get, Option, Some, None}
use Rattle.std.specs.declared.time.Duration.{Duration}
use Rattle.std.specs.Duration.{as_nanos}
use Rattle.std.specs.Option.{unwrap_or}
use Rattle.zber.specs.declared.fault.FaultKind.{FaultKind}
use Rattle.zber.specs.declared.fault.FaultKind.TheVariants as faults
use Rattle.zknow_stops.specs.declared.detail.Detail.{Detail}
use Rattle.zknow_stops.specs.declared.detail.Detail.TheVariants as details
use Rattle.zknow_stops.specs.declared.stop.Stop.{Stop}
use Rattle.zoom.specs.Asking.{limits_at}
use Rattle.zoom.specs.HostWaits.{HostWaits}
use Rattle.zoom.specs.Limits.{Limits}
use Rattle.zoom.specs.Metas.{MetaLinks}
use Rattle.zoom.specs.Notice.{Notice}
use Rattle.zoom.specs.Notice.TheVariants as notices
use Rattle.zoom.specs.PoolSteps.{IsStateAt}
use Rattle.zoom.specs.Reason.{Reason}
use Rattle.zoom.specs.Reason.TheVariants as reasons
use Rattle.zoom.specs.Reasons.{reason_name}
use Rattle.zoom.specs.State.{State}
use Rattle.zoom.specs.State.TheVariants as states

-- ---- what can be told

-- the whole seconds of a span
abbrev pub whole_seconds : Duration → ℕ
whole_seconds span = as_nanos span / 1000000000

-- of a host that was not reached
abbrev pub unreached_detail : Limits → Notice → Detail
unreached_detail limits notices.NoPort = details.NoPort
unreached_detail limits notices.NoName = details.NoName
unreached_detail limits notices.NoFamily = details.NoFamily
unreached_detail limits notices.Refused = details.Refused
unreached_detail limits notices.NoRoute = details.NoRoute
unreached_detail limits _ = details.NoAnswer (whole_seconds limits.connect)

-- of a connection that could not be read
abbrev pub unread_detail : Limits → Notice → Detail
unread_detail limits notices.Ended = details.HungUp
unread_detail limits notices.Reset = details.Reset
unread_detail limits _ = details.Silent (whole_seconds limits.patience)

-- of octets at fault: they end within a message, are more than one may have, or are none
abbrev pub frame_detail : FaultKind → Detail
frame_detail faults.Truncated = details.HungUp
frame_detail faults.TooLong = details.TooMany
frame_detail _ = details.NotZ3950

-- of a connection that failed for this reason, with these limits, and what was noticed of its host last
abbrev pub detail_of : Limits → Notice → Reason → Detail
detail_of limits notice (reasons.Frame kind at) = frame_detail kind
detail_of limits notice (reasons.Decode error) = details.NotZ3950
detail_of limits notice (reasons.Refused refused) = details.Unfit
detail_of limits notice reasons.Ended = details.HungUp
detail_of limits notice reasons.Connect = unreached_detail limits notice
detail_of limits notice reasons.Read = unread_detail limits notice
detail_of limits notice reasons.Write = details.Reset
detail_of limits notice reasons.Turns = details.TooMany
detail_of limits notice reasons.Memory = details.NoMemory

-- ---- connections

-- a connection in this state stopped for this; or it did not fail
abbrev pub IsStopOf : Limits → Notice → State → Option Stop → Type 0
IsStopOf limits notice (states.Failed reason) None = ⊥
IsStopOf limits notice (states.Failed reason) (Some stop) =
    (stop.reason.now ≡ reason_name reason) × (stop.detail ≡ detail_of limits notice reason)
IsStopOf limits notice _ stop = stop ≡ None

-- what was noticed of the host of a connection
abbrev pub notice_at : List Notice → ℕ → Notice
notice_at noticed c = unwrap_or (slice_get noticed c) notices.Nothing

-- why each of the first connections stopped
pub data AreStopsOf (limits : Limits) (waits : List HostWaits) (noticed : List Notice) (meta : MetaLinks)
    : List (Option Stop) → Type 0 where
  none : AreStopsOf limits waits noticed meta []
  more : {stops : List (Option Stop)} (state : State) (stop : Option Stop)
      → AreStopsOf limits waits noticed meta stops → IsStateAt (length stops) meta.pool state
      → IsStopOf (limits_at limits waits (length stops)) (notice_at noticed (length stops)) state stop
      → AreStopsOf limits waits noticed meta (stops ++ stop ∷ [])

-- why each connection stopped, with these limits and waiting times of hosts' own, and by what was noticed of its host
pub record AreStops (limits : Limits) (waits : List HostWaits) (noticed : List Notice) (meta : MetaLinks)
    (stops : List (Option Stop))
    : Type 0 where
  pub size : length stops ≡ length meta.pool.connections
  pub each : AreStopsOf limits waits noticed meta stops
