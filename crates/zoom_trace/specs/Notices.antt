-- What was noticed of hosts.
use Rattle.std.specs.Prelude.{◌≡◌, ℕ, ◌<◌, ◌==◌, if◌then◌else◌, List, [], ◌∷◌, length, get_or}
use Rattle.zoom_trace.specs.declared.entry.Traced.{Traced}
use Rattle.zoom_trace.specs.declared.entry.Traced.TheVariants as traced
use Rattle.zoom_trace.specs.declared.entry.TraceEntry.{TraceEntry}
use Rattle.zoom_trace.specs.declared.notice.Notice.{Notice}
use Rattle.zoom_trace.specs.declared.notice.Notice.TheVariants.{Nothing}

-- what was noticed last of the host of connection c, if that was this before
abbrev pub noticed_with : ℕ → Traced → Notice → Notice
noticed_with c (traced.Noticed d notice) before = if d == c then notice else before
noticed_with c _ before = before

-- the same after entries in their order
abbrev pub noticed_after : ℕ → List TraceEntry → Notice → Notice
noticed_after c [] before = before
noticed_after c (e ∷ es) before = noticed_after c es (noticed_with c e.what before)

-- an entry was noted
pub record IsNotedWith (what : Traced) (old new : List Notice) : Type 0 where
  pub size : length new ≡ length old
  pub each : (c : ℕ) → c < length old → get_or new c Nothing ≡ noticed_with c what (get_or old c Nothing)

-- what was noticed last of the host of each connection: the last that an entry tells, or nothing
pub record AreNotices (count : ℕ) (entries : List TraceEntry) (noticed : List Notice) : Type 0 where
  pub size : length noticed ≡ count
  pub each : (c : ℕ) → c < count → get_or noticed c Nothing ≡ noticed_after c entries Nothing
