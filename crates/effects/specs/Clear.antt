-- Document 01, "Commands": what 61h, 62h and 63h clear.
use Rattle.controller.specs.declared.Core.{Core}
use Rattle.controller.specs.State.{with_rtc, with_keys, with_remote, with_interrupt, rtc, keys, remote}

abbrev pub store_cleared : Core → Core
store_cleared c = with_keys c (keys c.keys.mask c.keys.sample c.keys.accepted 0)

abbrev pub remote_cleared : Core → Core
remote_cleared c = with_remote c (remote 0 0 0)

abbrev pub interrupts_cleared : Core → Core
interrupts_cleared c = with_interrupt (with_rtc c (rtc c.rtc.registers c.rtc.sixteenths 0 c.rtc.watchdog)) 0
