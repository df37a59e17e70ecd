-- The origin's call for each call of a pool.
use Rattle.zorigin.specs.Standings.{Init, Search, Present, Close}
use Rattle.zorigin.specs.Standings as origin
use Rattle.zorigin.specs.Ranges.{one_range}
use Rattle.zoom_pool.specs.declared.call.Call.{Call}
use Rattle.zoom_pool.specs.declared.call.Call.TheVariants as calls

-- the origin's call; a Present of `n` records from `start` asks for one range
abbrev pub call_of : Call → origin.Call
call_of calls.Init = Init
call_of (calls.Search op set ask) = Search op set ask
call_of (calls.Present op set start n) = Present op set (one_range start n)
call_of (calls.PresentRanges op set ranges) = Present op set ranges
call_of calls.Close = Close
