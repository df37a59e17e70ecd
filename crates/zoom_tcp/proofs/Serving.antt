-- A new target answers a client.
use Rattle.std.proofs.Common.{◌≡◌, subst, inr, [], Result, Err}
use Rattle.zoom_pool.specs.Hosts.{HostState, Holdings, HostAfter}
use Rattle.zoom_io.specs.declared.replies.AnswerError.{AnswerError}
use Rattle.zoom_io.specs.declared.replies.AnswerError.TheVariants as answers
use Rattle.zoom_devices.specs.Devices.{DeviceState}
use Rattle.zoom_io.specs.Answering.{AfterAnswer}
use Rattle.zoom_tcp.specs.Serving.{IsAnswered, IsStarved}

module _ (had holdings : Holdings) (first last : HostState) (source left sink held : DeviceState)
    (new : HostAfter had [] first) (same : had ≡ holdings) where
  fresh : HostAfter holdings [] first
  fresh = subst (λ z. HostAfter z [] first) same new

  pub answered_by : (result : Result (Unit {0}) AnswerError)
      → AfterAnswer 1000000 result first last source left sink held → (result ≡ Err answers.Memory → ⊥)
      → IsAnswered holdings source left sink held
  answered_by result answer memory = record {
    result = result;
    host = last;
    exchange = answer.on holdings [] fresh;
    end = answer.end;
    memory = memory;
  }

  pub starved_by : (error : AnswerError) → error ≡ answers.Memory
      → AfterAnswer 1000000 (Err error) first last source left sink held → IsStarved holdings source left sink held
  starved_by answers.Memory is answer = inr (last, answer.on holdings [] fresh, answer.end)
  starved_by answers.Read is answer = absurd cc
  starved_by answers.Write is answer = absurd cc
  starved_by answers.Turns is answer = absurd cc
