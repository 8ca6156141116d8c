-- THE TABLE of document 01's fourteen edge readings.
use Rattle.std.specs.Prelude.{ℕ, List, [], ◌∷◌, get_or}
use Rattle.registers.specs.Names.{SECONDS, WATCHDOG, ALARM_MONTH}
use Rattle.panel.specs.PowerUp.{panel_powered_up}
use Rattle.image.specs.Layout.{SIXTEENTHS, FLAGS, INTERRUPT, PINS, SETUP, GUARD_LEFT, WATCHDOG_LEFT, REMOTE_FRESH}
use Rattle.image.specs.Image.{encoded}
use Rattle.edges.specs.Entry.{ticks, command, frame, supply_return, Entry, entry, replaced}

-- power-up's image
abbrev pub start : List ℕ
start = encoded panel_powered_up

-- with the calendar registers 01h..07h
abbrev pub dated : List ℕ → List ℕ
dated calendar = replaced SECONDS calendar start

-- and the sixteenths and the guard left: 15 is one tick before the second
abbrev pub timed : ℕ → ℕ → List ℕ → List ℕ
timed sixteenths guard calendar = replaced SIXTEENTHS (sixteenths ∷ []) (replaced GUARD_LEFT (guard ∷ []) (dated calendar))

-- one tick from before the second b to the second a
abbrev pub tick_to : ℕ → List ℕ → List ℕ → Entry
tick_to reading b a = entry reading (timed 15 160 b) (ticks 1) 0 (timed 0 159 a)

-- register 09h and the watchdog left, low byte first
abbrev pub watched : ℕ → ℕ → ℕ → List ℕ
watched b low high = replaced WATCHDOG (b ∷ []) (replaced WATCHDOG_LEFT (low ∷ high ∷ []) start)

-- protocol and guard value 10
abbrev pub remote : ℕ → List ℕ
remote b = replaced SETUP (b ∷ []) start

-- and a fresh command, with the interrupt of the remote
abbrev pub keyed : ℕ → ℕ → List ℕ
keyed b c = replaced REMOTE_FRESH (1 ∷ 0 ∷ c ∷ []) (replaced INTERRUPT (0x40 ∷ []) (remote b))

-- the calendar, flags and interrupt byte of a panel with the alarm of reading 13
abbrev pub alarmed : List ℕ → ℕ → ℕ → List ℕ
alarmed calendar flags interrupt =
    replaced ALARM_MONTH (0xA0 ∷ 0xC0 ∷ 0x47 ∷ 0x30 ∷ 0x00 ∷ []) (replaced FLAGS (flags ∷ interrupt ∷ []) (dated calendar))

-- guard value 1 with b0: seconds, sixteenths, pins and guard left
abbrev pub guarded : ℕ → ℕ → ℕ → ℕ → List ℕ
guarded second sixteenths pins guard =
    replaced SECONDS (second ∷ [])
    (replaced SIXTEENTHS (sixteenths ∷ []) (replaced PINS (pins ∷ 0x01 ∷ 0x01 ∷ guard ∷ []) start))

abbrev pub table : List Entry
table =
    -- reading 1: 2024-02-28 23:59:59, weekday 4: next is 02-29, weekday 5
    tick_to 1 (0x59 ∷ 0x59 ∷ 0x23 ∷ 4 ∷ 0x28 ∷ 0x02 ∷ 0x24 ∷ []) (0x00 ∷ 0x00 ∷ 0x00 ∷ 5 ∷ 0x29 ∷ 0x02 ∷ 0x24 ∷ [])
    -- reading 2: 2023-02-28 23:59:59, weekday 3: next is 03-01, weekday 4
    ∷ tick_to 2 (0x59 ∷ 0x59 ∷ 0x23 ∷ 3 ∷ 0x28 ∷ 0x02 ∷ 0x23 ∷ []) (0x00 ∷ 0x00 ∷ 0x00 ∷ 4 ∷ 0x01 ∷ 0x03 ∷ 0x23 ∷ [])
    -- reading 3: century 0, 99-12-31 23:59:59: next century 1, 00-01-01
    ∷ tick_to 3 (0x59 ∷ 0x59 ∷ 0x23 ∷ 7 ∷ 0x31 ∷ 0x12 ∷ 0x99 ∷ []) (0x00 ∷ 0x00 ∷ 0x00 ∷ 1 ∷ 0x01 ∷ 0x41 ∷ 0x00 ∷ [])
    -- reading 4: century 3, the same: next century 0
    ∷ tick_to 4 (0x59 ∷ 0x59 ∷ 0x23 ∷ 7 ∷ 0x31 ∷ 0xD2 ∷ 0x99 ∷ []) (0x00 ∷ 0x00 ∷ 0x00 ∷ 1 ∷ 0x01 ∷ 0x01 ∷ 0x00 ∷ [])
    -- reading 5: 12:09:59: next 12:10:00, minute byte 10h
    ∷ tick_to 5 (0x59 ∷ 0x09 ∷ 0x12 ∷ 7 ∷ 0x01 ∷ 0x01 ∷ 0x00 ∷ []) (0x00 ∷ 0x10 ∷ 0x12 ∷ 7 ∷ 0x01 ∷ 0x01 ∷ 0x00 ∷ [])
    -- reading 6: date 31h with month 04h: 9
    ∷ entry 6 start (command (0x50 ∷ 0x05 ∷ 0x31 ∷ 0x04 ∷ [])) 9 start
    -- reading 7: seconds 1Ah: 9
    ∷ entry 7 start (command (0x50 ∷ 0x01 ∷ 0x1A ∷ [])) 9 start
    -- reading 8: 09h = 16h loads 80
    ∷ entry 8 start (command (0x50 ∷ 0x09 ∷ 0x16 ∷ [])) 0 (watched 0x16 80 0)
    -- reading 8: FCh loads 29,760 = 7440h
    ∷ entry 8 start (command (0x50 ∷ 0x09 ∷ 0xFC ∷ [])) 0 (watched 0xFC 0x40 0x74)
    -- reading 8: 83h is off, and stops a running one
    ∷ entry 8 (watched 0x16 80 0) (command (0x50 ∷ 0x09 ∷ 0x83 ∷ [])) 0 (watched 0x83 0 0)
    -- reading 9: NEC 00 FF 45 BA, first byte lowest: command 45h
    ∷ entry 9 (remote 0x4A) (frame 0xBA45FF00) 0 (keyed 0x4A 0x45)
    -- reading 9: 00 FF 45 BB: 11
    ∷ entry 9 (remote 0x4A) (frame 0xBB45FF00) 11 (remote 0x4A)
    -- reading 10: RC-5 300Ch: command 12
    ∷ entry 10 (remote 0x2A) (frame 0x300C) 0 (keyed 0x2A 12)
    -- reading 10: RC-5 380Ch: command 12
    ∷ entry 10 (remote 0x2A) (frame 0x380C) 0 (keyed 0x2A 12)
    -- reading 11: 2024-01-01 00:00:00, weekday 2, n = 31,622,400: 2025-01-01 00:00:00, weekday 4
    ∷ entry 11 (dated (0x00 ∷ 0x00 ∷ 0x00 ∷ 2 ∷ 0x01 ∷ 0x01 ∷ 0x24 ∷ [])) (supply_return 31_622_400) 0 (dated (0x00 ∷ 0x00 ∷ 0x00 ∷ 4 ∷ 0x01 ∷ 0x01 ∷ 0x25 ∷ []))
    -- reading 12: n = 31,622,401: 10
    ∷ entry 12 start (supply_return 31_622_401) 10 start
    -- reading 13: 0Ah..0Eh = A0 C0 47 30 00: from 07:30:00, n = 86,399 gives no match
    ∷ entry 13 (alarmed (0x00 ∷ 0x30 ∷ 0x07 ∷ 7 ∷ 0x01 ∷ 0x01 ∷ 0x00 ∷ []) 0 0) (supply_return 86_399) 0 (alarmed (0x59 ∷ 0x29 ∷ 0x07 ∷ 1 ∷ 0x02 ∷ 0x01 ∷ 0x00 ∷ []) 0 0)
    -- reading 13: 86,400 does
    ∷ entry 13 (alarmed (0x00 ∷ 0x30 ∷ 0x07 ∷ 7 ∷ 0x01 ∷ 0x01 ∷ 0x00 ∷ []) 0 0) (supply_return 86_400) 0 (alarmed (0x00 ∷ 0x30 ∷ 0x07 ∷ 1 ∷ 0x02 ∷ 0x01 ∷ 0x00 ∷ []) 1 0x10)
    -- reading 14: guard value 1 with b0: STBY low after 15 ticks
    ∷ entry 14 (guarded 0x00 0 0 16) (ticks 15) 0 (guarded 0x00 15 0 1)
    -- reading 14: high after the 16th
    ∷ entry 14 (guarded 0x00 0 0 16) (ticks 16) 0 (guarded 0x01 0 4 0)
    ∷ []

-- no event, beyond the table
abbrev pub beyond : Entry
beyond = entry 0 start (ticks 0) 0 start

-- the entry at a place
abbrev pub entry_at : ℕ → Entry
entry_at k = get_or table k beyond
