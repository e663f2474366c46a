-- The theorems that the library promises, each by its name, from where it is proved; and the table of worked examples.
pub use Rattle.text.proofs.Answers.{determined}
pub use Rattle.writer.proofs.Longest.{longest, longest_has}
pub use Rattle.grammar.proofs.Exact.{stamp_exact, time_text_exact, year_month_text_exact, month_day_text_exact}
pub use Rattle.kinds.proofs.Meaning.{stamp_meaning, time_text_meaning, year_month_meaning, month_day_meaning}
pub use Rattle.round_trip.proofs.Canonical.{canonical}
pub use Rattle.round_trip.proofs.Demand.{round_trip, one_line_one_event}
pub use Rattle.round_trip.proofs.Back.{there_and_back_lem}
pub use Rattle.recogniser.proofs.Theorem.{recognised, recognised_only}
pub mod Examples
