-- Paths of files that are written, and why one is refused.
use Rattle.std.proofs.Common.{◌≡◌, inl, inr, refl, ap, ℕ, List, Option, Some, None, Result, Ok, Err}
use Rattle.zmeta_devices.specs.Files.{Files}
use Rattle.zmeta_devices.specs.declared.fault.Fault.{Fault}
use Rattle.zmeta_devices.specs.declared.fault.Fault.TheVariants.{Write, Overwrite, Memory}
use Rattle.zmeta_offline.specs.Saved.{IsDraftFault}
use Rattle.zmeta_commands.specs.Begun.{ApartResult, IsTraceApart, TraceApartResult, IsSavingFault}

-- ---- the trace

pub trace_over : (s : Files) (read : List ℕ) (saved trace : Option (List ℕ)) (f : Fault)
    → ApartResult s read trace (Err f) → TraceApartResult s read saved trace (Err f)
trace_over s read saved trace (Overwrite failed) h = inl h
trace_over s read saved trace f h = absurd h

pub saved_over : (s : Files) (read saved : List ℕ) (trace : Option (List ℕ)) (f : Fault)
    → ApartResult s saved trace (Err f) → TraceApartResult s read (Some saved) trace (Err f)
saved_over s read saved trace (Overwrite failed) h = inr h
saved_over s read saved trace f h = absurd h

pub trace_apart : (s : Files) (read saved : List ℕ) (trace : Option (List ℕ)) (result : Result (Unit {0}) Fault)
    → ApartResult s read trace (Ok tt) → ApartResult s saved trace result
    → TraceApartResult s read (Some saved) trace result
trace_apart s read saved trace (Ok u) a b = record { world = a; file = b }
trace_apart s read saved trace (Err f) a b = saved_over s read saved trace f b

pub trace_alone : (s : Files) (read : List ℕ) (trace : Option (List ℕ)) → ApartResult s read trace (Ok tt)
    → TraceApartResult s read None trace (Ok tt)
trace_alone s read trace a = record { world = a; file = tt }

-- no fault was found
pub apart_by : (s : Files) (read : List ℕ) (saved trace : Option (List ℕ)) (result : Result (Unit {0}) Fault)
    → TraceApartResult s read saved trace result → ((f : Fault) → result ≡ Err f → ⊥)
    → IsTraceApart s read saved trace
apart_by s read saved trace (Ok u) h sound = h
apart_by s read saved trace (Err f) h sound = absurd (sound f refl)

-- ---- the saved file

pub saving_over : (s : Files) (read : List ℕ) (saved : Option (List ℕ)) (f : Fault)
    → ApartResult s read saved (Err f) → IsSavingFault s read saved f
saving_over s read saved (Overwrite failed) h = h
saving_over s read saved f h = absurd h

pub saving_unbegun : (s : Files) (read path : List ℕ) (f : Fault) → IsDraftFault path f
    → IsSavingFault s read (Some path) f
saving_unbegun s read path (Write failed) h = ap Some h
saving_unbegun s read path Memory h = tt
saving_unbegun s read path f h = absurd h

-- whether the path of a trace is apart, and why no draft is begun
pub ruleset of_trace = (trace_over, trace_apart, trace_alone)

pub ruleset of_saving = (saving_over, saving_unbegun)
