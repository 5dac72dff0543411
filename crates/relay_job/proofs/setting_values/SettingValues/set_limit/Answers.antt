use Rattle.std.proofs.Common.{refl, ap}
use Rattle.relay_job.specs.Settings.{limit_value}
use Rattle.relay_job.proofs.SettingFacts.{HasSet-known}
use Rattle.relay_job.proofs.setting_values.SettingValues.set_limit.Goals as goal

pub returns-then-eq : goal.returns-then-eq
returns-then-eq c = λ at read. HasSet-known limit_value at read c.as_slice.ensures c.eq.ensures c.if-eq.true (ap (λ v. v.limit) read.values) (λ text. refl) c.read_limit.ensures c.put.ensures.good (λ e. rw (c.put.ensures.put e, c.read_limit.ensures, read.values))

pub returns-then-eq-2 : goal.returns-then-eq-2
returns-then-eq-2 c = λ at read. HasSet-known limit_value at read c.as_slice-else-eq.ensures c.eq-else-eq.ensures c.if-eq-2.true (ap (λ v. v.smtp_limit) read.values) (λ text. refl) c.read_limit-then-eq-2.ensures c.put-then-eq-2.ensures.good (λ e. rw (c.put-then-eq-2.ensures.put e, c.read_limit-then-eq-2.ensures, read.values))

pub returns-then-eq-3 : goal.returns-then-eq-3
returns-then-eq-3 c = λ at read. HasSet-known limit_value at read c.as_slice-else-eq-2.ensures c.eq-else-eq-2.ensures c.if-eq-3.true (ap (λ v. v.relay_limit) read.values) (λ text. refl) c.read_limit-then-eq-3.ensures c.put-then-eq-3.ensures.good (λ e. rw (c.put-then-eq-3.ensures.put e, c.read_limit-then-eq-3.ensures, read.values))

pub returns-then-eq-4 : goal.returns-then-eq-4
returns-then-eq-4 c = λ at read. HasSet-known limit_value at read c.as_slice-else-eq-3.ensures c.eq-else-eq-3.ensures c.if-eq-4.true (ap (λ v. v.lmtp_limit) read.values) (λ text. refl) c.read_limit-then-eq-4.ensures c.put-then-eq-4.ensures.good (λ e. rw (c.put-then-eq-4.ensures.put e, c.read_limit-then-eq-4.ensures, read.values))
