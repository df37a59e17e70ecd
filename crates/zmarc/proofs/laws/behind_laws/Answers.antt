use Rattle.zmarc.proofs.BehindTheory.{year_behind, line_behind}
use Rattle.zmarc.proofs.WrittenTheory.{fields_before, is_record_before}
use Rattle.zmarc.proofs.laws.behind_laws.Goals as goal

pub returns : goal.returns
returns c = record {
  still_record = is_record_before;
  same_fields = fields_before;
  same_year = λ format status coded fs more w. year_behind status coded fs more w format;
  same_line = λ reading status coded fs more w t few. line_behind status coded fs more w reading t few;
}
