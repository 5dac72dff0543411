use Rattle.std.proofs.Common.{refl, ap}
use Rattle.relay_routes.specs.Nexthops.{via_setting_of}
use Rattle.relay_job.specs.Settings.{host_value, domains_value}
use Rattle.relay_job.proofs.SettingFacts.{HasSet-known}
use Rattle.relay_job.proofs.setting_values.SettingValues.set.Goals as goal

pub returns-in_ok-read_host : goal.returns-in_ok-read_host
returns-in_ok-read_host c = λ at read. HasSet-known host_value at read c.as_slice.ensures c.eq.ensures c.if-eq.true (ap (λ v. v.hostname) read.values) (λ text. refl) c.in_ok-read_host.ensures c.put.ensures.good (λ e. rw (c.put.ensures.put e, c.in_ok-read_host.ensures, read.values))

pub returns-in_ok-read_host-2 : goal.returns-in_ok-read_host-2
returns-in_ok-read_host-2 c = λ at read. HasSet-known host_value at read c.as_slice-else-eq.ensures c.eq-else-eq.ensures c.if-eq-2.true (ap (λ v. v.origin) read.values) (λ text. refl) c.in_ok-read_host-2.ensures c.put-then-eq-2.ensures.good (λ e. rw (c.put-then-eq-2.ensures.put e, c.in_ok-read_host-2.ensures, read.values))

pub returns-in_ok-read_domains : goal.returns-in_ok-read_domains
returns-in_ok-read_domains c = λ at read. HasSet-known domains_value at read c.as_slice-else-eq-2.ensures c.eq-else-eq-2.ensures c.if-eq-3.true (ap (λ v. v.destinations) read.values) (λ text. refl) c.in_ok-read_domains.ensures c.put-then-eq-3.ensures.good (λ e. rw (c.put-then-eq-3.ensures.put e, c.in_ok-read_domains.ensures, read.values))

pub returns-in_ok-parse : goal.returns-in_ok-parse
returns-in_ok-parse c = λ at read. HasSet-known via_setting_of at read c.as_slice-else-eq-3.ensures c.eq-else-eq-3.ensures c.if-eq-4.true (ap (λ v. v.mailbox_transport) read.values) (λ text. refl) c.in_ok-parse.ensures c.put-then-eq-4.ensures.good (λ e. rw (c.put-then-eq-4.ensures.put e, c.in_ok-parse.ensures, read.values))

pub returns-else-eq-4 : goal.returns-else-eq-4
returns-else-eq-4 c = c.set_limit.ensures
